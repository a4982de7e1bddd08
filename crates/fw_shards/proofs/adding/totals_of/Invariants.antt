use Rattle.std.proofs.Common.{take}
use Rattle.fw_shards.specs.Added.{all_of}
use Rattle.fw_sums.specs.Totals.{AreTotals}
use Rattle.fw_shards.proofs.adding.totals_of.Given as goal

-- the totals are those of the reports so far
abbrev pub invariant-loop-report : goal.invariant-loop-report
invariant-loop-report l = AreTotals (all_of (take l.report-index l.reports)) l.totals.items
