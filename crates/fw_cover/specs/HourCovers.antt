-- What commitments cover of an hour's rows, and what is left of both, as it is kept.
use Rattle.std.specs.Prelude.{◌≡◌, ◌+◌, ℕ, List, length, slice_index, All}
use Rattle.fw_charge.specs.Charge.{Charge}
use Rattle.fw_terms.specs.Commitment.{CommitmentValue}
use Rattle.fw_cover.specs.Cover.{IsTakeWithin, taken_of_row, used_of}
use Rattle.fw_cover.specs.Hour.{hour_cover, quantities_of, capacities_of}
use Rattle.fw_cover.specs.declared.hour.HourCover.{HourCover}
use Rattle.fw_cover.specs.declared.taken.Taken.{Taken}

-- this is what was taken, and what that leaves of rows with the quantities qs and of commitments with the capacities ks
pub record IsCover (all : List Taken) (qs ks : List ℕ) (h : HourCover) : Type 0 where
  pub taken : h.taken.items ≡ all
  pub one_each : length h.row_left.items ≡ length qs
  pub one_each_commitment : length h.unused.items ≡ length ks
  pub takes : All (IsTakeWithin (length ks) (length qs)) h.taken.items
  pub row_left : (r : ℕ) → taken_of_row r h.taken.items + slice_index h.row_left.items r ≡ slice_index qs r
  pub unused : (c : ℕ) → used_of c h.taken.items + slice_index h.unused.items c ≡ slice_index ks c

-- this is what the commitments cover of the rows of an hour, and what is left of both: what `Roster::cover` answers
abbrev pub IsHourCover : List CommitmentValue → List Charge → ℕ → HourCover → Type 0
IsHourCover cs rows hour h = IsCover (hour_cover cs rows hour) (quantities_of rows) (capacities_of cs) h
