use Rattle.std.proofs.Common.{◌≡◌, ◌∙◌, [], get_or, refl, sym}
use Rattle.csv.specs.Records.{fields_of}
use Rattle.fw_check.proofs.FieldFacts.{field_or}
use Rattle.fw_check.proofs.columns.is_name_at.Goals as goal

pub returns : goal.returns
returns c =
    let at : get_or (fields_of c.args.header.now) c.args.place [] ≡ c.field_bytes.result.now =
    sym (c.field_bytes.ensures ∙ field_or (fields_of c.args.header.now) c.args.place) in
    rw (at, c.eq.ensures, c.as_bytes.ensures.value) refl
