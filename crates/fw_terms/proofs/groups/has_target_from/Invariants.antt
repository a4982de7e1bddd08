use Rattle.std.proofs.Common.{◌≡◌, drop}
use Rattle.fw_terms.specs.Groups.{has_target_from}
use Rattle.fw_terms.proofs.groups.has_target_from.Given as goal

abbrev pub invariant-loop-rule : goal.invariant-loop-rule
invariant-loop-rule l = has_target_from l.rules (drop l.rule-index l.rules) ≡ has_target_from l.rules l.rules
