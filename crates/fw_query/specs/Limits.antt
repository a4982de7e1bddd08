-- The limit of a report.
use Rattle.std.specs.Prelude.{◌≡◌, ◌+◌, ◌<◌, ◌≤◌, ℕ, ℤ, List, ◌∷◌, ◌++◌, unsigned_abs}
use Rattle.fw_allocate.specs.Costs.{CostValue, size_of}

-- the most that the absolute direct costs of a report may sum to, in nanos
abbrev pub most_total : ℕ
most_total = 10000000000000000000

-- the running sum of the absolute costs passes the most at this group, and at no group before it
pub record PassesAt (group : List ℕ) (costs : List CostValue) : Type 0 where
  pub before : List CostValue
  pub cost : ℤ
  pub after : List CostValue
  pub split : costs ≡ before ++ (record { group = group; cost = cost } ∷ after)
  pub within : size_of before ≤ most_total
  pub past : most_total < size_of before + unsigned_abs cost
