-- How many rows stand before each segment, and where its rows stand among all rows.
use Rattle.std.specs.Prelude.{◌≡◌, ◌<◌, ◌≤◌, ◌+◌, ℕ, List, length, slice_index, take, drop}
use Rattle.fw_charge.specs.Charge.{Charge}
use Rattle.fw_posted.specs.Rows.{rows_before_segment}

-- for each segment how many rows stand before it
pub record AreStarts (starts : List ℕ) (segments : List (List Charge)) : Type 0 where
  pub long : length starts ≡ length segments
  pub each : (place : ℕ) → place < length segments → slice_index starts place ≡ rows_before_segment segments place

-- the rows of a segment from a row on, as many as there are, are those of all rows from a place on
abbrev pub AreRowsFrom : List Charge → ℕ → List Charge → ℕ → Type 0
AreRowsFrom rows row all place = (count : ℕ) → row + count ≤ length rows → take count (drop row rows) ≡ take count (drop place all)
