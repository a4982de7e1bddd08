-- What several workers bring, each from a piece of a list. The private functions of the report cite it.
use Rattle.std.specs.Prelude.{◌-◌, ℕ, true, List, map, replicate, IfOk, Result}
use Rattle.std.specs.List.{flat_map}
use Rattle.std.specs.declared.alloc.AllocError.{AllocError}
use Rattle.fw_charge.specs.Charge.{Charge}
use Rattle.fw_sums.specs.Costs.{Cost}
use Rattle.fw_sums.specs.Hours.{row_cost, rows_marked}
use Rattle.fw_sums.specs.Sums.{Counts}
use Rattle.fw_sums.specs.declared.groups.Groups.{Groups}

-- what a worker found counts these lines
abbrev pub PartCounts : List Cost → Result Groups AllocError → Type 0
PartCounts costs part = IfOk part (λ groups. Counts groups costs)

-- the lines of the pieces in turn
abbrev pub in_turn : List (List Cost) → List Cost
in_turn pieces = flat_map (λ costs. costs) pieces

-- what the rows of the hours from `from` up to, and not including, `to` bring under a tag key
abbrev pub range_costs : List ℕ → ℕ → ℕ → List Charge → List Cost
range_costs key from to rows = map (row_cost key) (rows_marked (replicate (to - from) true) from rows)
