use Rattle.std.proofs.Common.{◌-◌, ◌≤◌, length, take}
use Rattle.fw_scan.specs.Places.{Joins}
use Rattle.fw_scan.specs.declared.place.Place.TheVariants as place
use Rattle.fw_scan.proofs.place.quoted_len.Given as goal

-- the bytes so far stand before the closing quote
abbrev pub invariant-loop-at : goal.invariant-loop-at
invariant-loop-at l = (l.at ≤ length l.text) × Joins place.InQuotes (take l.at l.text)

abbrev pub decreases-loop-at : goal.decreases-loop-at
decreases-loop-at l = length l.text - l.at
