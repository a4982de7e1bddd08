use Rattle.std.proofs.Common.{◌+◌}
use Rattle.std.specs.Prelude.{◌&&◌, nat_le, nat_lt}
use Rattle.fw_sums.specs.Hours.{AddsMarks}
use Rattle.fw_sums.proofs.touched.mark_hours.Given as goal

-- the hours so far
abbrev pub invariant-loop-place : goal.invariant-loop-place
invariant-loop-place l = AddsMarks (λ h. nat_le l.first h && nat_lt h (l.from + l.place)) l.from l.initial.marks l.marks
