-- The lines of a range of hours.
use Rattle.std.specs.Prelude.{◌≡◌, ◌-◌, ℕ, List}
use Rattle.std.specs.List.{AllZip, flat_map, range_with_len}
use Rattle.fw_charge.specs.Charge.{Charge}
use Rattle.fw_terms.specs.Commitment.{CommitmentValue}
use Rattle.fw_amortise.specs.LineValue.{LineValue}
use Rattle.fw_amortise.specs.Lines.{AreLines}

-- the lines of some hours, one list for each
abbrev pub AreHourly : List CommitmentValue → List Charge → List ℕ → List (List LineValue) → Type 0
AreHourly cs rows hours hourly = AllZip (AreLines cs rows) hours hourly

-- these lists in one
abbrev pub joined : List (List LineValue) → List LineValue
joined hourly = flat_map (λ lines. lines) hourly

-- the lines of the hours from `from` up to, and not including, `to`, hour by hour
pub record AreRangeLines (cs : List CommitmentValue) (rows : List Charge) (from to : ℕ) (lines : List LineValue) : Type 0 where
  pub hourly : List (List LineValue)
  pub are_hourly : AreHourly cs rows (range_with_len from (to - from)) hourly
  pub lines_are : lines ≡ joined hourly
