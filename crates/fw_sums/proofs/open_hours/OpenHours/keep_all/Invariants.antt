use Rattle.fw_sums.specs.ReportCache.{AreKeptUnder, KeepsMore}
use Rattle.fw_sums.specs.Hours.{all_rows, lent}
use Rattle.fw_sums.proofs.open_hours.OpenHours.keep_all.Given as goal

-- what is kept is as it has to be, and of each hour something is kept of which it was
abbrev pub invariant-loop-batch : goal.invariant-loop-batch
invariant-loop-batch g l = record {
  kept : AreKeptUnder l.roster.commitments (all_rows (lent l.segments)) l.key l.kept;
  more : KeepsMore l.initial.kept l.kept;
}
