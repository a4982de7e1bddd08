-- The history that a builder stands for, and what its parts keep.
use Rattle.std.specs.Prelude.{◌≡◌, ◌≤◌, ◌-◌, true, List, [], ◌∷◌, length, map, take, drop, replicate}
use Rattle.fw_charge.specs.Charge.{Charge}
use Rattle.fw_snapshot.specs.Building.{Built, rows_before, IsInside}
use Rattle.fw_posted.specs.Rows.{segment_rows}
use Rattle.fw_snapshot.specs.StateView.{state_view, KeepsState}
use Rattle.fw_snapshot.specs.declared.state.State.TheInside.{Inside as State}
use Rattle.fw_snapshot.specs.declared.state.building.StateBuilder.TheInside.{Inside}

-- rows, each of which is a segment
abbrev pub singles : List Charge → List (List Charge)
singles rows = map (λ r. r ∷ []) rows

-- the state of the entries so far, with the rows that are taken in any segments
abbrev pub state_so_far : Inside → State
state_so_far b = record {
  alloc = b.alloc;
  currency = b.currency;
  heads = b.parts.heads;
  posted = record { segments = singles (take b.rows (segment_rows b.posted.segments)); counts = take b.rows b.marks.items };
  commitments = b.parts.commitments;
  policy = b.parts.policy;
  origins = b.parts.origins;
  registered = b.parts.registered;
  carried = b.carried;
  withdrawn = b.parts.withdrawn;
}

abbrev pub builder_view : Inside → Built
builder_view b = record { history = state_view (state_so_far b); segments = b.posted.segments; taken = b.rows }

-- what was added is a state, the place is behind the rows that are taken, and the rows behind it count
pub record KeepsBuilder (b : Inside) : Type 0 where
  pub state : KeepsState (state_so_far b)
  pub within : b.rows ≤ length (segment_rows b.posted.segments)
  pub marks : length b.marks.items ≡ length (segment_rows b.posted.segments)
  pub left : drop b.rows b.marks.items ≡ replicate (length (segment_rows b.posted.segments) - b.rows) true
  pub place : rows_before b.posted.segments b.place ≡ b.rows
  pub inside : IsInside b.posted.segments b.place
