use Rattle.std.proofs.Common.{length}
use Rattle.fw_dump.proofs.rows.runs_csv.Given as goal

-- each turn takes a run
abbrev pub decreases-loop-run : goal.decreases-loop-run
decreases-loop-run l = length l.runs
