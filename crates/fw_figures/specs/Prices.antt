-- The sums of the lines of rows at prices or amounts, over a range of hours.
use Rattle.std.specs.Prelude.{◌≡◌, ◌++◌, ◌+◌, ◌+ℤ◌, ℕ, ℤ, pos, List, [], ◌∷◌, Option, fold, map, option_copied}
use Rattle.std.specs.List.{range_with_len}
use Rattle.fw_charge.specs.Charge.{Charge}
use Rattle.fw_terms.specs.Commitment.{CommitmentValue}
use Rattle.fw_amortise.specs.LineValue.{LineValue}
use Rattle.fw_amortise.specs.Lines.{rows_in}
use Rattle.fw_figures.specs.declared.prices.Counted.{Counted}
use Rattle.fw_figures.specs.declared.prices.Counted.TheVariants as counted
use Rattle.fw_finops.specs.Listed.{AreAmountLines, ArePricedLines}
use Rattle.fw_select.specs.Groups.{AreTotals, GroupCost, as_amount}
use Rattle.fw_select.specs.Selectors.{costs_of}
use Rattle.fw_select.specs.Table.{AreSums}
use Rattle.fw_select.specs.declared.counter.Counter.{Counter}
use Rattle.fw_select.specs.declared.selector.Selector.{Selector}

-- ---- lines of hours in turn. Below, `Are` says which are the lines of an hour that has these rows

-- the lines of an hour whose rows are these, and behind them those of the hours after it
pub record AreJoined (Are : List Charge → ℕ → List LineValue → Type 0) (rows : List Charge) (hour : ℕ) (rest : List LineValue → Type 0) (lines : List LineValue) : Type 0 where
  pub first : List LineValue
  pub behind : List LineValue
  pub are_first : Are rows hour first
  pub are_behind : rest behind
  pub lines_are : lines ≡ first ++ behind

-- the lines of hours in turn, from this one on, whose rows are these
abbrev pub AreLinesByHour : (List Charge → ℕ → List LineValue → Type 0) → ℕ → List (List Charge) → List LineValue → Type 0
AreLinesByHour Are from [] lines = lines ≡ []
AreLinesByHour Are from (rows ∷ by_hour) lines = AreJoined Are rows from (AreLinesByHour Are (from + 1) by_hour) lines

-- the rows of so many hours from this one on, hour by hour
abbrev pub rows_by : List Charge → ℕ → ℕ → List (List Charge)
rows_by rows from hours = map (λ h. rows_in h rows) (range_with_len from hours)

-- the totals of the lines of so many hours from this one on, of those that a selector takes
pub record AreTotalsBy (Are : List Charge → ℕ → List LineValue → Type 0) (rows : List Charge) (s : Selector) (from hours : ℕ) (groups : List GroupCost) : Type 0 where
  pub lines : List LineValue
  pub are_lines : AreLinesByHour Are from (rows_by rows from hours) lines
  pub are_totals : AreTotals (costs_of s lines) groups

-- ---- at prices, and at amounts

-- the totals of the lines at prices
abbrev pub ArePriced : List CommitmentValue → Option (List ℕ) → List Charge → Selector → ℕ → ℕ → List GroupCost → Type 0
ArePriced cs tag rows s from hours groups = AreTotalsBy (ArePricedLines cs tag) rows s from hours groups

-- the totals of the rows at their amounts in a tag
abbrev pub AreAmountTotals : List ℕ → List Charge → Selector → ℕ → ℕ → List GroupCost → Type 0
AreAmountTotals tag rows s from hours groups = AreTotalsBy (AreAmountLines tag) rows s from hours groups

-- a selection whose groups have the sums of a tag's amounts beside their costs, and how many rows have none
pub record IsSummed (tag : List ℕ) (rows : List Charge) (s : Selector) (from hours : ℕ) (selection : List GroupCost) (summed : List GroupCost) (missing : ℤ) : Type 0 where
  pub amounts : List GroupCost
  pub are_amounts : AreAmountTotals tag rows s from hours amounts
  pub are_summed : AreTotals (selection ++ map as_amount amounts) summed
  pub missing_is : missing ≡ fold ◌+ℤ◌ (pos 0) (map (λ g. g.billed) amounts)

-- ---- as they are counted

-- the lines of an hour that are counted
abbrev pub AreCounted : Counted → List CommitmentValue → List Charge → ℕ → List LineValue → Type 0
AreCounted (counted.AtPrices tag) cs = ArePricedLines cs (option_copied tag)
AreCounted (counted.AtAmounts tag) cs = AreAmountLines tag.now

-- a counter has counted the lines of hours in turn, from this one on, whose rows are these
pub record HasCounted (counter : Counter) (s : Selector) (Are : List Charge → ℕ → List LineValue → Type 0) (from : ℕ) (by_hour : List (List Charge)) : Type 0 where
  pub lines : List LineValue
  pub are_lines : AreLinesByHour Are from by_hour lines
  pub sums : AreSums counter.table (costs_of s lines)

-- a counter has counted the lines of an hour after these
pub record CountsHour (counter : Counter) (before : List LineValue) (s : Selector) (Are : List Charge → ℕ → List LineValue → Type 0) (rows : List Charge) (hour : ℕ) : Type 0 where
  pub lines : List LineValue
  pub are_lines : Are rows hour lines
  pub sums : AreSums counter.table (costs_of s (before ++ lines))
