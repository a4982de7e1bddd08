-- Groups of a report.
use Rattle.std.specs.Prelude.{ℕ, List, map}
use Rattle.fw_compare.specs.declared.costs.Costs.{Costs}

-- a group, by its name, and its costs
pub record GroupValue : Type 0 where
  pub name : List ℕ
  pub costs : Costs

abbrev pub costs_of : List GroupValue → List Costs
costs_of groups = map (λ g. g.costs) groups
