use Rattle.std.proofs.Common.{arith}
use Rattle.fw_rows.proofs.KeptTagFacts.{kept-turn, kept-all}
use Rattle.fw_rows.proofs.kept_tags.tags_kept.Goals as goal

pub loop-index-preserved : goal.loop-index-preserved
loop-index-preserved c =
    kept-turn c.push_kept.new.tags.items c.loop-index.tags.items c.args.keeps.now c.args.values.now c.loop-index.index c.index-keeps-index.result c.index-values-index.result c.key.result.now c.as_str.result.now
    (omega (arith, c.loop-index-test.true, c.min-index-end.ensures)) (omega (arith, c.loop-index-test.true, c.min-index-end.ensures))
    c.in_ok-push_kept.ensures c.loop-index.invariant c.key.ensures c.as_str.ensures.value c.index-keeps-index.is c.index-values-index.is

pub returns : goal.returns
returns c = kept-all c.loop-index.tags.items c.args.keeps.now c.args.values.now c.loop-index.index c.loop-index.invariant (omega (arith, c.loop-index-test.false, c.min-index-end.ensures))
