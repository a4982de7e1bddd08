-- The commitment that some fields stand for.
use Rattle.std.specs.Prelude.{nat_abs, option_map, string_bytes}
use Rattle.fw_terms.specs.declared.commitment.CommitmentFields.{CommitmentFields}
use Rattle.fw_terms.specs.Commitment.{CommitmentValue}
use Rattle.fw_terms.specs.TermsView.{terms_view}

abbrev pub commitment_of : CommitmentFields → CommitmentValue
commitment_of fields = record {
  id = string_bytes fields.id;
  terms = terms_view fields.terms;
  sub_account = option_map string_bytes fields.sub_account;
  tags = fields.tags;
  start = fields.start;
  hours = fields.hours;
  capacity = nat_abs fields.capacity;
  purchases = fields.purchases.items;
}
