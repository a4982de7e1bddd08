use Rattle.std.proofs.Common.{◌≡◌, ◌++◌, take}
use Rattle.fw_allocate.specs.Costs.{groups_in}
use Rattle.fw_allocate.specs.GiftView.{texts}
use Rattle.fw_allocate.proofs.groups.push_direct.Given as goal

abbrev pub invariant-loop-cost : goal.invariant-loop-cost
invariant-loop-cost l = texts l.groups.items ≡ texts l.fn.groups.items ++ groups_in (take l.cost-index l.direct)
