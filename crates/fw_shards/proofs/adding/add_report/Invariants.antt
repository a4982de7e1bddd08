use Rattle.std.proofs.Common.{List, ◌++◌, take}
use Rattle.fw_sums.specs.Costs.{Cost}
use Rattle.fw_sums.specs.Totals.{AreTotals}
use Rattle.fw_shards.proofs.adding.add_report.Given as goal

-- the totals are those of the entries so far
abbrev pub invariant-loop-entry : goal.invariant-loop-entry
invariant-loop-entry l = (costs : List Cost) → AreTotals costs l.initial.totals.items → AreTotals (costs ++ take l.entry-index l.entries) l.totals.items
