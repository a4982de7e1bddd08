use Rattle.std.proofs.Common.{◌≡◌, ◌≤◌, ◌+◌, ◌-◌, ℕ, List, take, drop, if◌then◌else◌}
use Rattle.fw_charge.specs.Charge.{Charge}
use Rattle.fw_persistent.specs.Counts.{Counts, count_of}
use Rattle.fw_posted.specs.Rows.{segment_rows}
use Rattle.fw_snapshot.specs.Building.{rows_before, IsInside}
use Rattle.fw_snapshot.specs.Judging.{carries}
use Rattle.fw_snapshot.specs.declared.places.Place.{Place}
use Rattle.fw_snapshot.proofs.parts.carried_by.Given as goal

-- the post is counted for the ids of its first n rows, behind which the place is
pub record HasCarried (segments : List (List Charge)) (start : ℕ) (before after : Counts) (at : Place) (n : ℕ) : Type 0 where
  pub carried : (id : List ℕ) → count_of id after ≡ count_of id before + (if carries id (take n (drop start (segment_rows segments))) then 1 else 0)
  pub place : rows_before segments at ≡ start + n
  pub inside : IsInside segments at

abbrev pub invariant-loop-done : goal.invariant-loop-done
invariant-loop-done l = record { seen : HasCarried l.segments (rows_before l.segments l.fn.start) l.before l.after l.place l.done; few : l.done ≤ l.count }

abbrev pub decreases-loop-done : goal.decreases-loop-done
decreases-loop-done l = l.count - l.done
