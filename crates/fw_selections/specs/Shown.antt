-- What is shown of a selection.
use Rattle.std.specs.Prelude.{◌≡◌, ◌+ℤ◌, ◌||◌, not, ℕ, ℤ, pos, Bool, true, false, List, [], ◌∷◌, ◌++◌, filter, fold, map, take, Option, Some, None, option_map, string_bytes}
use Rattle.std.specs.List.{list_any}
use Rattle.std.specs.Borrow.{Bor}
use Rattle.std.specs.List.Sorted.{IsPermutation, IsSortedBy, IsStableBy}
use Rattle.std.specs.Ordering.{int_cmp, is_lt}
use Rattle.fw_select.specs.Groups.{GroupCost, is_same}
use Rattle.fw_selections.specs.declared.rows.Costs.{Costs}
use Rattle.fw_selections.specs.declared.rows.Row.{Row}
use Rattle.fw_selections.specs.declared.rows.Shown.{Shown}

-- the costs of a group
abbrev pub cost_of : GroupCost → Costs
cost_of group = record { billed = group.billed; effective = group.effective; amount = group.amount }

-- costs and others
abbrev pub with : Costs → Costs → Costs
with a b = record { billed = a.billed +ℤ b.billed; effective = a.effective +ℤ b.effective; amount = a.amount +ℤ b.amount }

abbrev pub total : List ℤ → ℤ
total amounts = fold ◌+ℤ◌ (pos 0) amounts

-- what groups come to together
abbrev pub costs_of : List GroupCost → Costs
costs_of groups = record { billed = total (map (λ g. g.billed) groups); effective = total (map (λ g. g.effective) groups); amount = total (map (λ g. g.amount) groups) }

-- a group with the larger EffectiveCost comes first
abbrev pub comes_first : Bor GroupCost → Bor GroupCost → Bool
comes_first a b = is_lt (int_cmp b.now.effective a.now.effective)

-- the same groups, the largest first; groups of one cost keep their order
pub record IsRanking (groups : List GroupCost) (ranked : List (Bor GroupCost)) : Type 0 where
  pub lent : List (Bor GroupCost)
  pub lent_are : map (λ g. g.now) lent ≡ groups
  pub same : IsPermutation lent ranked
  pub falling : IsSortedBy comes_first ranked
  pub stable : IsStableBy comes_first lent ranked

-- the first so many of the ranking
pub record AreLargest (count : ℕ) (groups : List GroupCost) (largest : List (Bor GroupCost)) : Type 0 where
  pub ranked : List (Bor GroupCost)
  pub ranking : IsRanking groups ranked
  pub largest_are : largest ≡ take count ranked

-- whether a group has a row of its own
unfoldable pub is_chosen : Shown → GroupCost → Bool
is_chosen shown group = shown.are_all || list_any (λ other. is_same other.now.group group.group) shown.groups.now

-- what a row says: the texts of its group, none where it is of others, and its costs
pub record RowValue : Type 0 where
  pub texts : Option (List (List ℕ))
  pub costs : Costs

abbrev pub row_value : Row → RowValue
row_value row = record { texts = option_map (λ texts. map string_bytes texts.now) row.texts; costs = row.costs }

-- the row of a group
abbrev pub own_row : GroupCost → RowValue
own_row group = record { texts = Some group.group; costs = cost_of group }

-- one row for all others, where there are some
abbrev pub others_row : List GroupCost → List RowValue
others_row [] = []
others_row (group ∷ groups) = (record { texts = None; costs = costs_of (group ∷ groups) }) ∷ []

abbrev pub has_any : List GroupCost → Bool
has_any [] = false
has_any (group ∷ groups) = true

-- the rows of groups that are chosen, what the others come to, and whether there are any
pub record AreCounted (chosen : GroupCost → Bool) (groups : List GroupCost) (rows : List Row) (others : Costs) (has_others : Bool) : Type 0 where
  pub rows_are : map row_value rows ≡ map own_row (filter chosen groups)
  pub others_are : others ≡ costs_of (filter (λ g. not (chosen g)) groups)
  pub there : has_others ≡ has_any (filter (λ g. not (chosen g)) groups)

-- a row for each group that is chosen, in their order, and behind them one for the others
pub record AreRows (chosen : GroupCost → Bool) (groups : List GroupCost) (rows : List Row) : Type 0 where
  pub rows_are : map row_value rows ≡ map own_row (filter chosen groups) ++ others_row (filter (λ g. not (chosen g)) groups)
