use Rattle.fw_rows.proofs.KeptTagFacts.{before-null}
use Rattle.fw_rows.proofs.WordFacts.{test-yes}
use Rattle.fw_rows.proofs.kept_tags.push_kept.Goals as goal

pub returns-then-is_null : goal.returns-then-is_null
returns-then-is_null c = before-null c.args.key.now c.args.text.now c.args.tags.now.items (test-yes _ _ c.is_null.ensures c.if-is_null.true)
