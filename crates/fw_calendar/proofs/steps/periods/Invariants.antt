use Rattle.std.proofs.Common.{◌-◌, ◌≤◌, List, ◌++◌}
use Rattle.fw_calendar.specs.Periods.{ArePeriods}
use Rattle.fw_calendar.specs.declared.steps.Period.{Period}
use Rattle.fw_calendar.proofs.steps.periods.Given as goal

-- with the periods of what is left, those so far are the periods of the range
abbrev pub invariant-loop-start : goal.invariant-loop-start
invariant-loop-start l = (l.start ≤ l.to) × ((rest : List Period) → ArePeriods l.step l.start l.to rest → ArePeriods l.step l.from l.to (l.periods.items ++ rest))

abbrev pub decreases-loop-start : goal.decreases-loop-start
decreases-loop-start l = l.to - l.start
