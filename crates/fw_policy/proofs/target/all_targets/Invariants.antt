use Rattle.std.proofs.Common.{drop}
use Rattle.fw_policy.proofs.TargetFacts.{Made}
use Rattle.fw_policy.proofs.target.all_targets.Given as goal

abbrev pub invariant-loop-named : goal.invariant-loop-named
invariant-loop-named l = Made l.weights l.targets.items (drop l.named-index l.weights)
