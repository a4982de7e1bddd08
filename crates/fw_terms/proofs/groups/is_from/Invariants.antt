use Rattle.std.proofs.Common.{◌≡◌, drop}
use Rattle.fw_terms.specs.Groups.{is_from}
use Rattle.fw_terms.proofs.groups.is_from.Given as goal

abbrev pub invariant-loop-rule : goal.invariant-loop-rule
invariant-loop-rule l = is_from (drop l.rule-index l.rules) l.group ≡ is_from l.rules l.group
