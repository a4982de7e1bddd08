use Rattle.std.proofs.Common.{◌≡◌, take}
use Rattle.fw_terms.proofs.policy.copy_targets.Given as goal

abbrev pub invariant-loop-target : goal.invariant-loop-target
invariant-loop-target l = l.copies.items ≡ take l.target-index l.targets
