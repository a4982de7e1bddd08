use Rattle.std.specs.Str.{IsUtf8}
use Rattle.fw_terms.specs.Policy.{TargetValue}
use Rattle.fw_terms.proofs.Items.{one_more, of_all}
use Rattle.fw_terms.proofs.spelled.targets_are_utf8.Goals as goal

pub loop-one-preserved : goal.loop-one-preserved
loop-one-preserved c =
    one_more (λ (t : TargetValue). IsUtf8 t.group) c.args.targets.now c.loop-one.one-index c.one-item.result c.loop-one-test.true c.one-item.is (rw c.group-group.ensures at c.group-group.utf8) c.loop-one.invariant

pub returns : goal.returns
returns c = of_all (λ (t : TargetValue). IsUtf8 t.group) c.args.targets.now c.loop-one.one-index c.loop-one-test.false c.loop-one.invariant
