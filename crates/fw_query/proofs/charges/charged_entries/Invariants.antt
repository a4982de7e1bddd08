use Rattle.std.proofs.Common.{◌≡◌, map, take}
use Rattle.fw_query.specs.Entries.{charged_entry}
use Rattle.fw_query.proofs.charges.charged_entries.Given as goal

-- the entries so far
abbrev pub invariant-loop-cost : goal.invariant-loop-cost
invariant-loop-cost l = l.all.items ≡ map (charged_entry l.entries) (take l.cost-index l.charged)
