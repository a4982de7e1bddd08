use Rattle.std.proofs.Common.{◌+◌, ◌-◌, ◌<◌, ◌≤◌, length}
use Rattle.fw_cut.specs.Places.{IsPassed}
use Rattle.fw_cut.proofs.place.blocks_end.Given as goal

-- the bytes so far stand before the closing quote
abbrev pub invariant-loop-last : goal.invariant-loop-last
invariant-loop-last l = (l.from ≤ l.last) × (l.last + 1 < length l.text) × IsPassed l.text l.last

abbrev pub decreases-loop-last : goal.decreases-loop-last
decreases-loop-last l = length l.text - l.last
