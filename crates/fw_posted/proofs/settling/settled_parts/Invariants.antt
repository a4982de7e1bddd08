use Rattle.std.proofs.Common.{◌≡◌}
use Rattle.fw_posted.specs.Parts.{all_marks, AreParts}
use Rattle.fw_posted.proofs.settling.settled_parts.Given as goal

-- the parts are those of the segments still, with the same marks
abbrev pub invariant-loop-place : goal.invariant-loop-place
invariant-loop-place l = record {
  parts : AreParts 0 l.after l.segments;
  marks : all_marks l.after ≡ all_marks l.parts;
}
