-- Rows by hour, and the hours in which commitments have lines. What is computed over a range of hours cites it.
use Rattle.std.specs.Prelude.{◌≡◌, ◌<◌, ◌≤◌, ◌+◌, ◌-◌, ◌^◌, ℕ, nat_le, ◌==◌, ◌||◌, ◌&&◌, Bool, true, false, List, [], length, map, filter, slice_get, slice_index, slice_index_or, Option, Some, None, All, Vec}
use Rattle.std.specs.Borrow.{Bor}
use Rattle.std.specs.declared.alloc.Global.{Global}
use Rattle.std.specs.List.{filter_map, flat_map, list_any, range_with_len}
use Rattle.fw_charge.specs.Charge.{Charge, hour_of}
use Rattle.fw_charge.specs.Tags.{group_of}
use Rattle.fw_terms.specs.Commitment.{CommitmentValue}
use Rattle.fw_columns.specs.Hours.{hours_of, places_of_hour}
use Rattle.fw_cover.specs.Applies.{is_in_term}
use Rattle.fw_cover.specs.RosterView.{RosterValue}
use Rattle.fw_amortise.specs.Lines.{rows_in}
use Rattle.fw_sums.specs.Costs.{Cost}
use Rattle.fw_sums.specs.declared.hours.HourPlace.{HourPlace}
use Rattle.fw_sums.specs.declared.hours.RowPlace.{RowPlace}

-- the segments that references lend
abbrev pub lent : List (Bor (List Charge)) → List (List Charge)
lent segments = map (λ s. s.now) segments

-- the rows of segments in turn
abbrev pub all_rows : List (List Charge) → List Charge
all_rows segments = flat_map (λ rows. rows) segments

-- the rows at a place: those of an hour of a segment
abbrev pub rows_there : List (List Charge) → HourPlace → List Charge
rows_there segments p = rows_in (slice_index (hours_of (slice_index_or segments p.segment [])) p.number) (slice_index_or segments p.segment [])

-- there is such a segment, and such an hour in it
pub record IsThere (segments : List (List Charge)) (p : HourPlace) : Type 0 where
  pub segment : p.segment < length segments
  pub number : p.number < length (hours_of (slice_index_or segments p.segment []))

-- the rows at places, in their order
abbrev pub rows_at : List (List Charge) → List HourPlace → List Charge
rows_at segments places = flat_map (rows_there segments) places

-- the rows of a list at places, in their order
abbrev pub rows_of_places : List Charge → List ℕ → List Charge
rows_of_places rows places = filter_map (slice_get rows) places

-- the row at a place of a segment, where there is one
abbrev pub row_at : List (List Charge) → RowPlace → Option Charge
row_at segments p = slice_get (slice_index_or segments p.segment []) p.place

-- there is a row at the place
pub record HasRow (segments : List (List Charge)) (p : RowPlace) : Type 0 where
  pub segment : p.segment < length segments
  pub place : p.place < length (slice_index_or segments p.segment [])

-- places of a segment
abbrev pub row_places : ℕ → List ℕ → List RowPlace
row_places segment places = map (λ place. record { segment = segment; place = place }) places

-- where the rows at a place are, one by one
abbrev pub row_places_there : List (List Charge) → HourPlace → List RowPlace
row_places_there segments p = row_places p.segment (places_of_hour (slice_index (hours_of (slice_index_or segments p.segment [])) p.number) (slice_index_or segments p.segment []))

-- so of the rows at places
abbrev pub row_places_at : List (List Charge) → List HourPlace → List RowPlace
row_places_at segments places = flat_map (row_places_there segments) places

-- the rows at the places of a list
abbrev pub rows_of_list : List (List Charge) → Vec HourPlace Global → List Charge
rows_of_list segments list = rows_at segments list.items

-- there is a row at each place of a list
abbrev pub AreThere : List (List Charge) → Vec HourPlace Global → Type 0
AreThere segments list = All (IsThere segments) list.items

-- the lists have the places of the rows of so many hours from this one on, hour by hour
pub record AreByHour (segments : List (List Charge)) (rows : List Charge) (from hours : ℕ) (by_hour : List (Vec HourPlace Global)) : Type 0 where
  pub there : All (AreThere segments) by_hour
  pub each : map (rows_of_list segments) by_hour ≡ map (λ h. rows_in h rows) (range_with_len from hours)

-- a roster has each of so many hours from this one on
pub record HasHours (r : RosterValue) (from hours : ℕ) : Type 0 where
  pub since : r.from ≤ from
  pub until : from + hours ≤ r.to

-- whether a commitment has a line in an hour: it runs then, or was paid for then
abbrev pub has_line : ℕ → CommitmentValue → Bool
has_line hour c = is_in_term c hour || list_any (λ p. hour_of p.at == hour) c.purchases

-- whether some commitment has
unfoldable pub is_touched : List CommitmentValue → ℕ → Bool
is_touched cs hour = list_any (has_line hour) cs

-- what a row brings under a tag key
abbrev pub row_cost : List ℕ → Charge → Cost
row_cost key row = record { group = group_of key row.tags; billed = row.billed; effective = row.effective }

-- whether an hour is marked, where the first mark is of the hour `from` and the others are of those after it
unfoldable pub is_marked : List Bool → ℕ → ℕ → Bool
is_marked marks from hour = nat_le from hour && slice_index_or marks (hour - from) false

-- the rows of marked hours
abbrev pub rows_marked : List Bool → ℕ → List Charge → List Charge
rows_marked marks from rows = filter (λ row. is_marked marks from (hour_of row.start)) rows

-- the place of an hour among the marks, or none where it isn't marked
abbrev pub IsMarkedPlace : ℕ → ℕ → List Bool → Option ℕ → Type 0
IsMarkedPlace hour from marks None = is_marked marks from hour ≡ false
IsMarkedPlace hour from marks (Some k) = (k < length marks) × (hour ≡ from + k) × (is_marked marks from hour ≡ true)

-- hours that pass a test were marked, among those of marks of which the first is of this hour, and no others; they can be the hours of lines
pub record AddsMarks (test : ℕ → Bool) (from : ℕ) (old new : List Bool) : Type 0 where
  pub same_length : length new ≡ length old
  pub each : (k : ℕ) → k < length old → slice_index_or new k false ≡ (slice_index_or old k false || test (from + k))
  pub early : (k : ℕ) → slice_index_or new k false ≡ true → slice_index_or old k false ≡ false → from + k < 2 ^ 32

-- of so many hours from this one on those are marked in which some commitment has a line, and these can be the hours of lines
pub record AreTouched (cs : List CommitmentValue) (from hours : ℕ) (marks : List Bool) : Type 0 where
  pub each : marks ≡ map (is_touched cs) (range_with_len from hours)
  pub early : (k : ℕ) → slice_index_or marks k false ≡ true → from + k < 2 ^ 32
