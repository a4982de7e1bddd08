use Rattle.std.proofs.Common.{◌-◌, ◌<◌, ◌≤◌, length}
use Rattle.fw_posted.specs.Rows.{rows_before_segment}
use Rattle.fw_posted.proofs.finding.segment_of.Given as goal

-- the row stands behind the rows before the first segment, and before those of the segment behind
abbrev pub invariant-loop-part : goal.invariant-loop-part
invariant-loop-part l = record {
  from : rows_before_segment l.segments l.first ≤ l.row;
  until : l.row < rows_before_segment l.segments l.behind;
  begun : l.first ≤ l.place;
  order : l.place < l.behind;
  within : l.behind ≤ length l.segments;
}

abbrev pub decreases-loop-part : goal.decreases-loop-part
decreases-loop-part l = l.behind - l.first
