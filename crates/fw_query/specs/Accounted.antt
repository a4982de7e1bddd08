-- That each row of a range of hours is accounted for by its lines.
use Rattle.std.specs.Prelude.{◌≡◌, ◌-◌, ◌&&◌, ℕ, List, filter, nat_le, nat_lt}
use Rattle.std.specs.List.{AllZip, flat_map, range_with_len}
use Rattle.std.specs.List.Sorted.{IsPermutation}
use Rattle.fw_charge.specs.Charge.{Charge, hour_of}
use Rattle.fw_terms.specs.Commitment.{CommitmentValue}
use Rattle.fw_amortise.specs.LineValue.{LineValue}
use Rattle.fw_amortise.specs.Lines.{rows_in}
use Rattle.fw_amortise.specs.Sources.{AreAccounted}
use Rattle.fw_sums.specs.RangeLines.{joined}

-- the rows whose hour is in a range
abbrev pub rows_between : ℕ → ℕ → List Charge → List Charge
rows_between from to rows = filter (λ row. nat_le from (hour_of row.start) && nat_lt (hour_of row.start) to) rows

-- these lines account for the rows of an hour
abbrev pub AccountFor : List CommitmentValue → List Charge → ℕ → List LineValue → Type 0
AccountFor cs rows hour lines = AreAccounted cs (rows_in hour rows) hour lines

-- the lines are those of each hour in turn, each hour's account for its rows, and the rows of all the hours are those of the range, each once
pub record AreAccountedBetween (cs : List CommitmentValue) (rows : List Charge) (from to : ℕ) (lines : List LineValue) : Type 0 where
  pub hourly : List (List LineValue)
  pub lines_are : lines ≡ joined hourly
  pub each : AllZip (AccountFor cs rows) (range_with_len from (to - from)) hourly
  pub rows_are : IsPermutation (flat_map (λ hour. rows_in hour rows) (range_with_len from (to - from))) (rows_between from to rows)
