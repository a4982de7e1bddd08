use Rattle.std.proofs.Common.{◌-◌, ◌≤◌, length, take}
use Rattle.fw_cut.specs.Places.{GoesOn}
use Rattle.fw_cut.specs.declared.place.Place.TheVariants.{Quoted}
use Rattle.fw_cut.proofs.place.bytes_end.Given as goal

-- the bytes so far stand before the closing quote
abbrev pub invariant-loop-at : goal.invariant-loop-at
invariant-loop-at l = (l.from ≤ l.at) × (l.at ≤ length l.text) × GoesOn Quoted (take l.at l.text) Quoted

abbrev pub decreases-loop-at : goal.decreases-loop-at
decreases-loop-at l = length l.text - l.at
