use Rattle.std.proofs.Common.{◌-◌, ◌<◌, ◌≤◌, length}
use Rattle.fw_posted.specs.Rows.{rows_before_segment}
use Rattle.fw_stored_rows.proofs.stored.segment_of.Given as goal

-- the row stands behind the rows before the first segment, and before those of the segment behind
abbrev pub invariant-loop-behind : goal.invariant-loop-behind
invariant-loop-behind l = record {
  from : rows_before_segment l.segments l.first ≤ l.row;
  until : l.row < rows_before_segment l.segments l.behind;
  order : l.first < l.behind;
  within : l.behind ≤ length l.segments;
}

abbrev pub decreases-loop-behind : goal.decreases-loop-behind
decreases-loop-behind l = l.behind - l.first
