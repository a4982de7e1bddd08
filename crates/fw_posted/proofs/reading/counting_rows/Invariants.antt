use Rattle.std.proofs.Common.{◌≡◌, ◌≤◌, length, take}
use Rattle.fw_posted.specs.Marks.{selected}
use Rattle.fw_posted.specs.Parts.{all_marks}
use Rattle.fw_posted.specs.Rows.{segment_rows}
use Rattle.fw_posted.proofs.reading.counting_rows.Given as goal

-- the rows of the segments so far that count
abbrev pub invariant-loop-place : goal.invariant-loop-place
invariant-loop-place l = record {
  rows : segment_rows l.counting.items ≡ selected (all_marks (take l.place l.parts)) (segment_rows (take l.place l.segments));
  few : length l.counting.items ≤ l.place;
}
