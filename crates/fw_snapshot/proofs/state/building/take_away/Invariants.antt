use Rattle.std.proofs.Common.{◌-◌, ◌≡◌}
use Rattle.fw_posted.specs.Marks.{without}
use Rattle.fw_snapshot.proofs.state.building.take_away.Given as goal

-- the marks without the rows so far
abbrev pub invariant-loop-place : goal.invariant-loop-place
invariant-loop-place l = l.marks.items ≡ without l.initial.place (l.place - l.initial.place) l.initial.marks.items
