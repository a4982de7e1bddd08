use Rattle.std.proofs.Common.{◌≡◌, ◌++◌, drop, take}
use Rattle.fw_posted.specs.Rows.{segment_rows}
use Rattle.fw_past.proofs.front.front_of.Given as goal

-- the rows so far, and those that are wanted of the segments behind them, are the first ones
abbrev pub invariant-loop-place : goal.invariant-loop-place
invariant-loop-place l =
    segment_rows l.front ++ take l.left (segment_rows (drop l.place l.segments)) ≡ take l.count (segment_rows l.segments)
