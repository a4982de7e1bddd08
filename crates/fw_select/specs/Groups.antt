-- Costs by group, where a group is a list of texts.
use Rattle.std.specs.Prelude.{◌≡◌, ◌↔◌, ℕ, ℤ, pos, ◌+ℤ◌, Bool, List, map, filter, fold, Contains}
use Rattle.std.specs.Cmp.Lexicographic.{pointwise, slice_cmp}
use Rattle.std.specs.List.Sorted.{IsStrictlySortedBy}
use Rattle.std.specs.Ordering.{nat_cmp}
use Rattle.std.specs.Str.{bytes_eq}

-- what one line brings: the texts of the group that it is in, its costs in nanos, and an amount beside them
pub record GroupCost : Type 0 where
  pub group : List (List ℕ)
  pub billed : ℤ
  pub effective : ℤ
  pub amount : ℤ

-- whether two groups are one
abbrev pub is_same : List (List ℕ) → List (List ℕ) → Bool
is_same group other = pointwise bytes_eq group other

-- what the lines of a group bring
abbrev pub costs_in : List (List ℕ) → List GroupCost → List GroupCost
costs_in group costs = filter (λ c. is_same group c.group) costs

-- the exact sum of an amount over the lines of a group
unfoldable pub sum_in : (GroupCost → ℤ) → List GroupCost → List (List ℕ) → ℤ
sum_in amount costs group = fold ◌+ℤ◌ (pos 0) (map amount (costs_in group costs))

-- the groups of the lines, line by line
abbrev pub groups_of : List GroupCost → List (List (List ℕ))
groups_of costs = map (λ c. c.group) costs

-- groups rise: the first text in which two differ decides, by the order of its bytes
abbrev pub AreRising : List (List (List ℕ)) → Type 0
AreRising groups = IsStrictlySortedBy (slice_cmp (slice_cmp nat_cmp)) groups

-- the groups that some line is in, in rising order, each once
pub record AreGroups (costs : List GroupCost) (groups : List (List (List ℕ))) : Type 0 where
  pub rising : AreRising groups
  pub each : (g : List (List ℕ)) → Contains groups g ↔ Contains (groups_of costs) g

-- what the lines of a group come to
abbrev pub total_of : List GroupCost → List (List ℕ) → GroupCost
total_of costs group = record { group = group; billed = sum_in (λ c. c.billed) costs group; effective = sum_in (λ c. c.effective) costs group; amount = sum_in (λ c. c.amount) costs group }

-- the EffectiveCost of a group as an amount beside no costs
abbrev pub as_amount : GroupCost → GroupCost
as_amount g = record { group = g.group; billed = pos 0; effective = pos 0; amount = g.effective }

-- the totals of the groups that some line is in, in rising order of the groups
pub record AreTotals (costs : List GroupCost) (totals : List GroupCost) : Type 0 where
  pub groups : List (List (List ℕ))
  pub are_groups : AreGroups costs groups
  pub totals_are : totals ≡ map (total_of costs) groups
