use Rattle.std.proofs.Common.{All}
use Rattle.fw_sums.specs.ReportCache.{IsFound}
use Rattle.fw_sums.specs.Hours.{all_rows, lent}
use Rattle.fw_sums.proofs.open_hours.OpenHours.find_each.Given as goal

-- what was found so far
abbrev pub invariant-loop-taken : goal.invariant-loop-taken
invariant-loop-taken l = All (IsFound l.roster.commitments (all_rows (lent l.segments)) l.key) l.found.items
