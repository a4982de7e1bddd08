-- Costs by group.
use Rattle.std.specs.Prelude.{ℕ, List, [], ◌∷◌, map, fold, sum_by, if◌then◌else◌, ℤ, pos, ◌+ℤ◌, unsigned_abs}
use Rattle.std.specs.Str.{bytes_eq}

-- a group, as the bytes of its text, and its cost in nanos
pub record CostValue : Type 0 where
  pub group : List ℕ
  pub cost : ℤ

abbrev pub groups_in : List CostValue → List (List ℕ)
groups_in costs = map (λ c. c.group) costs

abbrev pub amounts_in : List CostValue → List ℤ
amounts_in costs = map (λ c. c.cost) costs

abbrev pub total : List ℤ → ℤ
total amounts = fold ◌+ℤ◌ (pos 0) amounts

abbrev pub total_cost : List CostValue → ℤ
total_cost costs = total (amounts_in costs)

-- the sum of the absolute costs
abbrev pub size_of : List CostValue → ℕ
size_of costs = sum_by (λ c. unsigned_abs c.cost) costs

-- the amount of a group, where these groups have these amounts: 0 where it is none of them
unfoldable pub amount_of : List (List ℕ) → List ℤ → List ℕ → ℤ
amount_of [] amounts g = pos 0
amount_of (h ∷ groups) [] g = pos 0
amount_of (h ∷ groups) (a ∷ amounts) g = if bytes_eq h g then a else amount_of groups amounts g

-- the cost of a group: 0 where it isn't there
abbrev pub cost_in : List CostValue → List ℕ → ℤ
cost_in costs g = amount_of (groups_in costs) (amounts_in costs) g
