use Rattle.std.proofs.Common.{◌≡◌, ◌++◌, take}
use Rattle.fw_terms.specs.Policy.{froms}
use Rattle.fw_allocate.specs.GiftView.{texts}
use Rattle.fw_allocate.proofs.groups.push_givers.Given as goal

abbrev pub invariant-loop-rule : goal.invariant-loop-rule
invariant-loop-rule l = texts l.groups.items ≡ texts l.fn.groups.items ++ froms (take l.rule-index l.rules)
