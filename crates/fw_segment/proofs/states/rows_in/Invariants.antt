use Rattle.std.proofs.Common.{◌≡◌, ◌≤◌, ◌*◌, length, take}
use Rattle.fw_posted.specs.Rows.{segment_rows}
use Rattle.fw_segment.proofs.states.rows_in.Given as goal

-- the rows of the segments so far, at most 65,536 each
abbrev pub invariant-loop-place : goal.invariant-loop-place
invariant-loop-place l = (l.rows ≡ length (segment_rows (take l.place l.segments))) × (l.rows ≤ 65536 * l.place)
