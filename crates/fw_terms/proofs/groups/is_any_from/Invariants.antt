use Rattle.std.proofs.Common.{◌≡◌, drop}
use Rattle.fw_terms.specs.Groups.{is_any_from}
use Rattle.fw_terms.proofs.groups.is_any_from.Given as goal

abbrev pub invariant-loop-target : goal.invariant-loop-target
invariant-loop-target l = is_any_from l.rules (drop l.target-index l.targets) ≡ is_any_from l.rules l.targets
