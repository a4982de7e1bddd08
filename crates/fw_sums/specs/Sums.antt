-- Sums by group as they are kept while the lines are read.
use Rattle.std.specs.Prelude.{◌≡◌, ◌++◌, ⊤, [], ◌∷◌, ◌+◌, ◌<◌, ◌≤◌, ◌*◌, ◌^◌, ℕ, ℤ, ◌+ℤ◌, List, Option, Some, None, String, string_bytes, nat_abs, if◌then◌else◌}
use Rattle.std.specs.Str.{bytes_eq}
use Rattle.std.specs.List.{list_any}
use Rattle.std.specs.List.Sorted.{IsSorted}
use Rattle.std.specs.Map.{update}
use Rattle.std.specs.String.{string_cmp, string_eq}
use Rattle.std.specs.declared.alloc.Global.{Global}
use Rattle.indexmap.specs.IndexMap.{IsReordered, IsUnique, get_by_text, keys}
use Rattle.fw_money.specs.Amount.{most_nanos}
use Rattle.fw_charge.specs.Charge.{Charge}
use Rattle.fw_terms.specs.Commitment.{CommitmentValue}
use Rattle.fw_amortise.specs.LineValue.{LineValue}
use Rattle.fw_amortise.specs.Lines.{AreHourLines}
use Rattle.fw_sums.specs.Costs.{Cost, costs_of, groups_of, sum_in}
use Rattle.fw_sums.specs.RangeLines.{joined}
use Rattle.fw_sums.specs.declared.groups.Groups.{Groups}
use Rattle.fw_sums.specs.declared.groups.Sums.{Sums}

-- what is kept of a group: nothing where no line is in it
unfoldable pub sums_of : List Cost → List ℕ → Option Sums
sums_of costs group =
    if list_any (bytes_eq group) (groups_of costs)
    then Some (record { billed = sum_in (λ c. c.billed) costs group; effective = sum_in (λ c. c.effective) costs group })
    else None

-- the sums of a group, where it has any
abbrev pub sums_at : Groups → List ℕ → Option Sums
sums_at groups group = get_by_text groups.by_group group

-- the sums kept are those of these lines
pub record AreSums (groups : Groups) (costs : List Cost) : Type 0 where
  pub sums : (g : List ℕ) → sums_at groups g ≡ sums_of costs g

-- no sum is larger than so many amounts can make it
pub record AreSmall (costs : List Cost) (lines : ℕ) : Type 0 where
  pub billed : (g : List ℕ) → nat_abs (sum_in (λ c. c.billed) costs g) ≤ most_nanos * lines
  pub effective : (g : List ℕ) → nat_abs (sum_in (λ c. c.effective) costs g) ≤ most_nanos * lines

-- the sums kept are those of these lines, and none is larger than so many amounts can make it
pub record Counts (groups : Groups) (costs : List Cost) : Type 0 where
  pub are_sums : AreSums groups costs
  pub small : AreSmall costs groups.lines

-- with the lines of an hour, whose rows are these, after the lines before it
pub record CountsHour (groups : Groups) (before : List Cost) (key : List ℕ) (cs : List CommitmentValue) (rows : List Charge) (hour : ℕ) : Type 0 where
  pub lines : List LineValue
  pub are_lines : AreHourLines cs rows hour lines
  pub counts : Counts groups (before ++ costs_of key lines)

-- the lines of hours in turn, from this one on, whose rows are these
abbrev pub AreHourlyOf : List CommitmentValue → ℕ → List (List Charge) → List (List LineValue) → Type 0
AreHourlyOf cs from [] [] = ⊤
AreHourlyOf cs from [] (lines ∷ hourly) = ⊥
AreHourlyOf cs from (rows ∷ by_hour) [] = ⊥
AreHourlyOf cs from (rows ∷ by_hour) (lines ∷ hourly) = AreHourLines cs rows from lines × AreHourlyOf cs (from + 1) by_hour hourly

-- the sums of those lines, after what came before them
pub record CountsHours (groups : Groups) (before : List Cost) (key : List ℕ) (cs : List CommitmentValue) (by_hour : List (List Charge)) (from : ℕ) : Type 0 where
  pub hourly : List (List LineValue)
  pub are_hourly : AreHourlyOf cs from by_hour hourly
  pub counts : Counts groups (before ++ costs_of key (joined hourly))

-- both sums may grow by one amount
pub record HasRoom (sums : Sums) : Type 0 where
  pub billed : nat_abs sums.billed < 2 ^ 126
  pub effective : nat_abs sums.effective < 2 ^ 126

-- sums with one more line
abbrev pub added : Cost → Option Sums → Sums
added cost None = record { billed = cost.billed; effective = cost.effective }
added cost (Some sums) = record { billed = sums.billed +ℤ cost.billed; effective = sums.effective +ℤ cost.effective }

-- both costs are in the range of amounts
pub record AreAmounts (billed effective : ℤ) : Type 0 where
  pub billed_small : nat_abs billed ≤ most_nanos
  pub effective_small : nat_abs effective ≤ most_nanos

-- the line is counted in its group, and the other groups stay
pub record AddsLine (old new : Groups) (cost : Cost) : Type 0 where
  pub sums : (g : List ℕ) → sums_at new g ≡ update bytes_eq (sums_at old) cost.group (Some (added cost (sums_at old cost.group))) g
  pub lines : new.lines ≡ old.lines

-- the same sums, in rising order of their groups
pub record IsInOrder (old new : Groups) : Type 0 where
  pub reordered : IsReordered string_eq old.by_group new.by_group
  pub sorted : IsSorted string_cmp (keys new.by_group)
  pub unique : IsUnique string_eq new.by_group

-- what the lines of a group come to, by the sums that are kept of it
abbrev pub kept_total : String Global × Sums → Cost
kept_total e = record { group = string_bytes e.0; billed = e.1.billed; effective = e.1.effective }
