-- Costs by group.
use Rattle.std.specs.Prelude.{◌↔◌, ℕ, ℤ, pos, ◌+ℤ◌, List, map, filter, fold, Contains}
use Rattle.std.specs.Str.{bytes_eq}
use Rattle.fw_charge.specs.Tags.{group_of}
use Rattle.fw_amortise.specs.LineValue.{LineValue}
use Rattle.fw_terms.specs.Texts.{IsRising}

-- what one line brings to a report: the group that it is in, and its costs in nanos
pub record Cost : Type 0 where
  pub group : List ℕ
  pub billed : ℤ
  pub effective : ℤ

-- the lines of a group
abbrev pub lines_in : List ℕ → List Cost → List Cost
lines_in group costs = filter (λ c. bytes_eq group c.group) costs

-- the exact sum of an amount over the lines of a group
unfoldable pub sum_in : (Cost → ℤ) → List Cost → List ℕ → ℤ
sum_in amount costs group = fold ◌+ℤ◌ (pos 0) (map amount (lines_in group costs))

-- the groups of the lines, line by line
abbrev pub groups_of : List Cost → List (List ℕ)
groups_of costs = map (λ c. c.group) costs

-- the groups that some line is in, in rising order of their bytes, each once
pub record AreGroups (costs : List Cost) (groups : List (List ℕ)) : Type 0 where
  pub rising : IsRising groups
  pub each : (g : List ℕ) → Contains groups g ↔ Contains (groups_of costs) g

-- what a line brings under a tag key
abbrev pub line_cost : List ℕ → LineValue → Cost
line_cost key line = record { group = group_of key line.tags; billed = line.billed; effective = line.effective }

abbrev pub costs_of : List ℕ → List LineValue → List Cost
costs_of key lines = map (line_cost key) lines
