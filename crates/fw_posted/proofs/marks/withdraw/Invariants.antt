use Rattle.std.proofs.Common.{◌-◌, ◌≡◌}
use Rattle.fw_posted.specs.Marks.{without}
use Rattle.fw_posted.proofs.marks.withdraw.Given as goal

-- the marks without the range so far
abbrev pub invariant-loop-place : goal.invariant-loop-place
invariant-loop-place l = l.marks ≡ without l.from (l.place - l.from) l.initial.marks
