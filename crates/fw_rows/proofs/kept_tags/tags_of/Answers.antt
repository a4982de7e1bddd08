use Rattle.fw_rows.proofs.TagFacts.{tags_null, tags_some}
use Rattle.fw_rows.proofs.WordFacts.{test-yes, test-no}
use Rattle.fw_rows.proofs.kept_tags.tags_of.Goals as goal

pub returns-then-is_null : goal.returns-then-is_null
returns-then-is_null c = tags_null _ _ (test-yes _ _ c.is_null.ensures c.if-is_null.true) c.empty.ensures

pub returns : goal.returns
returns c = tags_some _ _ (test-no _ _ c.is_null.ensures c.if-is_null.false) c.read_tags.ensures
