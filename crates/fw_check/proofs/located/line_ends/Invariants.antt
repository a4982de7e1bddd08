use Rattle.std.proofs.Common.{◌≡◌, ◌-◌, ◌≤◌, length, take}
use Rattle.fw_check.specs.Lines.{line_ends_in}
use Rattle.fw_check.proofs.located.line_ends.Given as goal

-- the lines that end in the bytes so far are counted
abbrev pub invariant-loop-at : goal.invariant-loop-at
invariant-loop-at l = (l.at ≤ length l.text) × (l.count ≤ l.at) × (l.count ≡ line_ends_in l.line_end (take l.at l.text))

abbrev pub decreases-loop-at : goal.decreases-loop-at
decreases-loop-at l = length l.text - l.at

-- as before, for the rest
abbrev pub invariant-loop-place : goal.invariant-loop-place
invariant-loop-place l = (l.count ≤ l.place) × (l.count ≡ line_ends_in l.line_end (take l.place l.text))
