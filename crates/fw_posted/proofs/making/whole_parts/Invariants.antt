use Rattle.std.proofs.Common.{◌≡◌, true, take, replicate}
use Rattle.fw_posted.specs.Parts.{all_marks, AreParts}
use Rattle.fw_posted.specs.Rows.{rows_before_segment}
use Rattle.fw_posted.proofs.making.whole_parts.Given as goal

-- the parts of the segments so far
abbrev pub invariant-loop-place : goal.invariant-loop-place
invariant-loop-place l = record {
  parts : AreParts 0 l.parts (take l.place l.segments);
  marks : all_marks l.parts ≡ replicate l.rows true;
  rows : l.rows ≡ rows_before_segment l.segments l.place;
}
