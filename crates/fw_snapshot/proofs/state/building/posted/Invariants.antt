use Rattle.std.proofs.Common.{◌≡◌, ◌+◌, ◌-◌, ◌*◌, ◌≤◌, ℕ, Bool, List, length, take, drop, All, if◌then◌else◌}
use Rattle.std.specs.List.{flat_map, list_any}
use Rattle.fw_charge.specs.Charge.{Charge}
use Rattle.fw_charge.specs.Spelling.{row, IsRow}
use Rattle.fw_persistent.specs.Counts.{Counts, count_of}
use Rattle.fw_snapshot.specs.Building.{has_counted_id, rows_before, IsInside}
use Rattle.fw_posted.specs.Rows.{segment_rows}
use Rattle.fw_snapshot.specs.Judging.{carries}
use Rattle.fw_snapshot.specs.declared.places.Place.{Place}
use Rattle.fw_snapshot.proofs.state.building.posted.Given as goal

-- what the first n rows come to, behind which the place is
pub record HasSeen (segments : List (List Charge)) (start : ℕ) (registered before : Counts) (bytes : ℕ) (some : Bool) (after : Counts) (at : Place) (n : ℕ) : Type 0 where
  pub len : bytes ≡ 4 + length (flat_map row (take n (drop start (segment_rows segments))))
  pub few : bytes ≤ 4 + 527429 * n
  pub valid : All IsRow (take n (drop start (segment_rows segments)))
  pub own : some ≡ list_any (has_counted_id registered) (take n (drop start (segment_rows segments)))
  pub carried : (id : List ℕ) → count_of id after ≡ count_of id before + (if carries id (take n (drop start (segment_rows segments))) then 1 else 0)
  pub place : rows_before segments at ≡ start + n
  pub inside : IsInside segments at

abbrev pub invariant-loop-done : goal.invariant-loop-done
invariant-loop-done l = record {
  seen : HasSeen l.segments (rows_before l.segments l.fn.start) l.registered l.carried l.len l.own l.after l.place l.done;
  few : l.done ≤ l.count;
}

abbrev pub decreases-loop-done : goal.decreases-loop-done
decreases-loop-done l = l.count - l.done
