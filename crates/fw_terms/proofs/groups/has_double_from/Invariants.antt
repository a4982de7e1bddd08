use Rattle.std.proofs.Common.{◌≡◌, length}
use Rattle.fw_terms.specs.Groups.{has_double_from}
use Rattle.fw_terms.proofs.groups.has_double_from.Given as goal

abbrev pub invariant-loop-rest : goal.invariant-loop-rest
invariant-loop-rest l = has_double_from l.rest ≡ has_double_from l.rules

abbrev pub decreases-loop-rest : goal.decreases-loop-rest
decreases-loop-rest l = length l.rest
