use Rattle.std.proofs.Common.{◌-◌, ◌≤◌, All, length, take}
use Rattle.fw_cut.specs.Places.{IsPlain}
use Rattle.fw_cut.proofs.place.plain_len.Given as goal

-- the bytes so far are plain
abbrev pub invariant-loop-at : goal.invariant-loop-at
invariant-loop-at l = (l.at ≤ length l.text) × All IsPlain (take l.at l.text)

abbrev pub decreases-loop-at : goal.decreases-loop-at
decreases-loop-at l = length l.text - l.at

abbrev pub invariant-loop-at-2 : goal.invariant-loop-at-2
invariant-loop-at-2 l = (l.at ≤ length l.text) × All IsPlain (take l.at l.text)

abbrev pub decreases-loop-at-2 : goal.decreases-loop-at-2
decreases-loop-at-2 l = length l.text - l.at
