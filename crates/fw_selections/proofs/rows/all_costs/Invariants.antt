use Rattle.std.proofs.Common.{◌≡◌, take}
use Rattle.fw_selections.specs.Shown.{costs_of}
use Rattle.fw_selections.proofs.rows.all_costs.Given as goal

-- the costs of the groups so far
abbrev pub invariant-loop-group : goal.invariant-loop-group
invariant-loop-group l = l.costs ≡ costs_of (take l.group-index l.group-items)
