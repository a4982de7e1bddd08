-- Lines as they are counted, hour by hour. The private functions of the walk cite it.
use Rattle.std.specs.Prelude.{◌≡◌, ◌+◌, ◌++◌, ℕ, List, []}
use Rattle.fw_charge.specs.Charge.{Charge}
use Rattle.fw_terms.specs.Commitment.{CommitmentValue}
use Rattle.fw_amortise.specs.LineValue.{LineValue}
use Rattle.fw_amortise.specs.Lines.{AreHourLines}
use Rattle.fw_sums.specs.RangeLines.{AreRangeLines, joined}
use Rattle.fw_sums.specs.Sums.{AreHourlyOf}
use Rattle.fw_select.specs.Groups.{AreTotals, GroupCost}
use Rattle.fw_select.specs.Selectors.{costs_of}
use Rattle.fw_select.specs.Table.{AreSums}
use Rattle.fw_select.specs.declared.selector.Selector.{Selector}
use Rattle.fw_select.specs.declared.table.Table.{Table}

-- with the lines of an hour, whose rows are these, after the lines before it
pub record CountsHour (table : Table) (before : List GroupCost) (s : Selector) (cs : List CommitmentValue) (rows : List Charge) (hour : ℕ) : Type 0 where
  pub lines : List LineValue
  pub are_lines : AreHourLines cs rows hour lines
  pub sums : AreSums table (before ++ costs_of s lines)

-- with the lines of hours in turn, from this one on, whose rows are these
pub record CountsHours (table : Table) (s : Selector) (cs : List CommitmentValue) (by_hour : List (List Charge)) (from : ℕ) : Type 0 where
  pub hourly : List (List LineValue)
  pub are_hourly : AreHourlyOf cs from by_hour hourly
  pub sums : AreSums table (costs_of s (joined hourly))

-- the totals of the lines of so many hours from this one on
pub record HasTotals (cs : List CommitmentValue) (rows : List Charge) (s : Selector) (from hours : ℕ) (groups : List GroupCost) : Type 0 where
  pub lines : List LineValue
  pub are_lines : AreRangeLines cs rows from (from + hours) lines
  pub are_totals : AreTotals (costs_of s lines) groups
