use Rattle.std.proofs.Common.{◌≡◌, take}
use Rattle.std.specs.List.{AllZip}
use Rattle.fw_direct.specs.Sheets.{IsSum}
use Rattle.fw_direct.proofs.sheet.sums_of.Given as goal

-- the sums of the periods so far
abbrev pub invariant-loop-slot : goal.invariant-loop-slot
invariant-loop-slot l = AllZip (λ slot sum. IsSum slot.reports sum) (take l.slot-index l.slots) l.sums.items
