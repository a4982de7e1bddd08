-- The sums of whole segments, as they are kept from one report to the next. The private functions of the report cite it.
use Rattle.std.specs.Prelude.{◌++◌, ◌<◌, ◌≤◌, ℕ, List, Option, IfSome, nat_eq, map, take, drop, All}
use Rattle.std.specs.List.Sorted.{IsPermutation}
use Rattle.std.specs.Map.{lookup}
use Rattle.fw_charge.specs.Charge.{Charge, hour_of}
use Rattle.fw_sums.specs.Costs.{Cost}
use Rattle.fw_sums.specs.Hours.{row_cost}
use Rattle.fw_sums.specs.Parts.{range_costs}
use Rattle.fw_sums.specs.Sums.{Counts}
use Rattle.fw_sums.specs.declared.groups.Groups.{Groups}
use Rattle.fw_sums.specs.declared.wholes.Whole.{Whole}
use Rattle.fw_sums.specs.declared.wholes.Wholes.{Wholes}

-- a row is of an hour from this one on and before that one
pub record IsBetween (from to : ℕ) (row : Charge) : Type 0 where
  pub since : from ≤ hour_of row.start
  pub before : hour_of row.start < to

-- the sums are those of what these rows bring under a key, and the rows are of the hours between its hours
pub record IsWhole (key : List ℕ) (rows : List Charge) (whole : Whole) : Type 0 where
  pub counts : Counts whole.sums (map (row_cost key) rows)
  pub between : All (IsBetween whole.from whole.to) rows

-- what is kept of the segment whose first row is at a place among all rows
abbrev pub whole_at : Wholes → ℕ → Option Whole
whole_at wholes first = lookup (nat_eq first) wholes.by_first.entries

-- what is kept at each place are the sums of the rows from there on, as many as it says
abbrev pub AreWholes : List ℕ → List Charge → Wholes → Type 0
AreWholes key rows wholes = (first : ℕ) → IfSome (whole_at wholes first) (λ whole. IsWhole key (take whole.len (drop first rows)) whole)

-- what the rows of these hours bring are the costs that are counted, and what the others of the rows bring
pub record AreDivided (key : List ℕ) (from to : ℕ) (rows : List Charge) (groups : Groups) (others : List Charge) : Type 0 where
  pub costs : List Cost
  pub counts : Counts groups costs
  pub divided : IsPermutation (costs ++ range_costs key from to others) (range_costs key from to rows)
