use Rattle.std.proofs.Common.{◌≡◌, take}
use Rattle.std.specs.List.{filter}
use Rattle.fw_allocate.specs.Charges.{takes_part}
use Rattle.fw_allocate.specs.Costs.{amounts_in, groups_in}
use Rattle.fw_allocate.specs.GiftView.{texts}
use Rattle.fw_allocate.proofs.gift.Receivers.in_proportion.Given as goal

abbrev pub invariant-loop-cost : goal.invariant-loop-cost
invariant-loop-cost l = (texts l.groups.items ≡ groups_in (filter (takes_part l.rules) (take l.cost-index l.direct))) × (l.weights.items ≡ amounts_in (filter (takes_part l.rules) (take l.cost-index l.direct)))
