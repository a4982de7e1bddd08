use Rattle.fw_terms.proofs.Utf8.{account_utf8, tags_utf8}
use Rattle.fw_terms.proofs.spelled.commitment_has_spelling.Goals as goal

pub returns : goal.returns
returns c = record {
  limits = c.id-id.ensures.in_limits;
  id = rw c.id-id.ensures.value at c.id-id.utf8;
  terms = rw c.terms.ensures.value at c.terms_are_utf8.ensures;
  sub_account = account_utf8 c.args.one.now.sub_account (rw c.sub_account.ensures at c.optional_text_has_spelling.ensures);
  tags = tags_utf8 c.args.one.now.tags (rw c.tags.ensures at c.tags_have_spelling.ensures);
}
