use Rattle.std.proofs.Common.{List, ◌++◌, take}
use Rattle.fw_sums.specs.Costs.{Cost, costs_of}
use Rattle.fw_sums.specs.Sums.{Counts}
use Rattle.fw_sums.proofs.groups.Groups.add_lines.Given as goal

-- the lines so far are counted
abbrev pub invariant-loop-line : goal.invariant-loop-line
invariant-loop-line l = (costs : List Cost) → Counts l.initial.self costs → Counts l.self (costs ++ costs_of l.key (take l.line-index l.lines))
