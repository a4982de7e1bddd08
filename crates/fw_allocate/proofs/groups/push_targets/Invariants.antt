use Rattle.std.proofs.Common.{◌≡◌, ◌++◌, take}
use Rattle.fw_terms.specs.Policy.{targets_of}
use Rattle.fw_allocate.specs.GiftView.{texts}
use Rattle.fw_allocate.proofs.groups.push_targets.Given as goal

abbrev pub invariant-loop-rule : goal.invariant-loop-rule
invariant-loop-rule l = texts l.groups.items ≡ texts l.fn.groups.items ++ targets_of (take l.rule-index l.rules)
