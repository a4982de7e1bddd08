-- A state that is made of segments and of the heads of its entries.
use Rattle.std.specs.Prelude.{◌≡◌, ◌≤◌, ◌+◌, ℕ, Bool, false, List, [], ◌∷◌, ◌++◌, length, take, drop, nat_lt, slice_get, Some}
use Rattle.std.specs.Option.{option_map_or}
use Rattle.fw_charge.specs.Charge.{Charge}
use Rattle.fw_entry.specs.Entry.{EntryValue}
use Rattle.fw_persistent.specs.Counts.{Counts, count_of}
use Rattle.fw_posted.specs.Rows.{segment_rows}
use Rattle.fw_snapshot.specs.Heads.{HeadValue, entry_of, row_count}
use Rattle.fw_snapshot.specs.History.{History}
use Rattle.fw_snapshot.specs.declared.places.Place.{Place}

-- the history so far, all segments, and how many of their rows are taken
pub record Built : Type 0 where
  pub history : History
  pub segments : List (List Charge)
  pub taken : ℕ

-- the rows that aren't taken yet
abbrev pub left_rows : Built → List Charge
left_rows b = drop b.taken (segment_rows b.segments)

-- the entry of a head, whose rows are the next ones
abbrev pub next_entry : Built → HeadValue → EntryValue
next_entry b h = entry_of h (take (row_count h.content) (left_rows b))

-- with this entry behind the others
abbrev pub with_next : Built → HeadValue → Built
with_next b h = record { history = record { currency = b.history.currency; entries = b.history.entries ++ next_entry b h ∷ [] }; segments = b.segments; taken = b.taken + row_count h.content }

-- how many rows stand before a place
abbrev pub rows_before : List (List Charge) → Place → ℕ
rows_before segments at = length (segment_rows (take at.segment segments)) + at.row

-- the place is before a row of its segment, or behind the last one
abbrev pub IsInside : List (List Charge) → Place → Type 0
IsInside segments at = (rows : List Charge) → slice_get segments at.segment ≡ Some rows → at.row ≤ length rows

-- whether a row carries an id that is counted
abbrev pub has_counted_id : Counts → Charge → Bool
has_counted_id counts row = option_map_or (λ d. nat_lt 0 (count_of d.id counts)) row.discount false
