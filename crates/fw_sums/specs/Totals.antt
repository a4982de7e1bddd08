-- What the lines of a range of hours come to, by the groups of a tag key.
use Rattle.std.specs.Prelude.{◌≡◌, ℕ, List, map}
use Rattle.fw_charge.specs.Charge.{Charge}
use Rattle.fw_terms.specs.Commitment.{CommitmentValue}
use Rattle.fw_amortise.specs.LineValue.{LineValue}
use Rattle.fw_sums.specs.Costs.{AreGroups, Cost, costs_of, sum_in}
use Rattle.fw_sums.specs.RangeLines.{AreRangeLines}

-- what the lines of a group come to: the exact sums of their costs
abbrev pub total_of : List Cost → List ℕ → Cost
total_of costs group = record { group = group; billed = sum_in (λ c. c.billed) costs group; effective = sum_in (λ c. c.effective) costs group }

-- the totals of the groups that some line is in, in rising order of the groups
pub record AreTotals (costs : List Cost) (totals : List Cost) : Type 0 where
  pub groups : List (List ℕ)
  pub are_groups : AreGroups costs groups
  pub totals_are : totals ≡ map (total_of costs) groups

-- the totals of the lines of a range of hours
pub record HasTotals (cs : List CommitmentValue) (rows : List Charge) (key : List ℕ) (from to : ℕ) (totals : List Cost) : Type 0 where
  pub lines : List LineValue
  pub are_lines : AreRangeLines cs rows from to lines
  pub are_totals : AreTotals (costs_of key lines) totals
