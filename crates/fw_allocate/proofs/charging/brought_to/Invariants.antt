use Rattle.std.proofs.Common.{◌≡◌, ◌≤◌, ◌*◌, ◌^◌, take, map, unsigned_abs}
use Rattle.fw_allocate.specs.Charges.{brought_to}
use Rattle.fw_allocate.specs.Costs.{total}
use Rattle.fw_allocate.proofs.charging.brought_to.Given as goal

abbrev pub invariant-loop-gift : goal.invariant-loop-gift
invariant-loop-gift l = (l.brought ≡ total (map (brought_to l.group) (take l.gift-index l.gifts))) × (unsigned_abs l.brought ≤ l.gift-index * 10 ^ 19)
