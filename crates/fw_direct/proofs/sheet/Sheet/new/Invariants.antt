use Rattle.std.proofs.Common.{◌≡◌, map, take}
use Rattle.fw_direct.proofs.sheet.Sheet.new.Given as goal

-- the slots are of the periods so far
abbrev pub invariant-loop-period : goal.invariant-loop-period
invariant-loop-period l = map (λ s. s.period) l.slots.items ≡ take l.period-index l.period-items
