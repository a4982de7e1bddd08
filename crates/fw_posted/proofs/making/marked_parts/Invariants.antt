use Rattle.std.proofs.Common.{◌≡◌, drop, take}
use Rattle.fw_posted.specs.Parts.{all_marks, AreParts}
use Rattle.fw_posted.specs.Rows.{rows_before_segment}
use Rattle.fw_posted.proofs.making.marked_parts.Given as goal

-- the parts of the segments so far, and the marks of the others
abbrev pub invariant-loop-place : goal.invariant-loop-place
invariant-loop-place l = record {
  parts : AreParts 0 l.parts (take l.place l.segments);
  marks : all_marks l.parts ≡ take (rows_before_segment l.segments l.place) l.counts;
  rest : l.rest ≡ drop (rows_before_segment l.segments l.place) l.counts;
}
