use Rattle.std.proofs.Common.{◌++◌, List, map, take}
use Rattle.fw_sums.specs.Costs.{Cost}
use Rattle.fw_sums.specs.Hours.{all_rows, lent, row_cost, rows_marked}
use Rattle.fw_sums.specs.Sums.{Counts}
use Rattle.fw_sums.proofs.groups.Groups.add_segments.Given as goal

-- the rows of the segments so far are counted
abbrev pub invariant-loop-segment : goal.invariant-loop-segment
invariant-loop-segment l = (costs : List Cost) → Counts l.initial.self costs → Counts l.self (costs ++ map (row_cost l.key) (rows_marked l.marks l.from (all_rows (take l.segment-index (lent l.segments)))))
