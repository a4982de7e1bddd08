use Rattle.std.proofs.Common.{◌≡◌, ◌≤◌, ◌*◌, ◌^◌, take, map, unsigned_abs}
use Rattle.fw_allocate.specs.Charges.{taken_from}
use Rattle.fw_allocate.specs.Costs.{total}
use Rattle.fw_allocate.proofs.charging.taken_from.Given as goal

abbrev pub invariant-loop-gift : goal.invariant-loop-gift
invariant-loop-gift l = (l.taken ≡ total (map (taken_from l.group) (take l.gift-index l.gifts))) × (unsigned_abs l.taken ≤ l.gift-index * 10 ^ 19)
