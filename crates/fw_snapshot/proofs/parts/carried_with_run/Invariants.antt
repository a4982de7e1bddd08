use Rattle.std.proofs.Common.{◌≡◌, ◌+◌, ◌&&◌, ℕ, List, nat_le, if◌then◌else◌}
use Rattle.std.specs.Prelude.{slice_range}
use Rattle.fw_persistent.specs.Counts.{count_of}
use Rattle.fw_snapshot.specs.Judging.{carries}
use Rattle.fw_snapshot.proofs.parts.carried_with_run.Given as goal

-- the post is counted for the ids of the rows so far
abbrev pub invariant-loop-place : goal.invariant-loop-place
invariant-loop-place l = (id : List ℕ) → count_of id l.next ≡ count_of id l.after + (if carries id (slice_range l.columns l.fn.run.first l.place) && nat_le (count_of id l.after) (count_of id l.before) then 1 else 0)
