use Rattle.std.proofs.Common.{◌≡◌, take}
use Rattle.fw_posted.specs.Parts.{all_marks}
use Rattle.fw_posted.proofs.reading.marks_of.Given as goal

-- the marks of the parts so far
abbrev pub invariant-loop-place : goal.invariant-loop-place
invariant-loop-place l = l.marks.items ≡ all_marks (take l.place l.parts)
