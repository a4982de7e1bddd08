use Rattle.std.proofs.Common.{length}
use Rattle.fw_check.proofs.kept.+count_kept.Given as goal

-- each turn takes a column
abbrev pub decreases-count_kept : goal.decreases-count_kept
decreases-count_kept l = length l.columns.now
