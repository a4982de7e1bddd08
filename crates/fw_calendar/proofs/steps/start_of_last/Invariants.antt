use Rattle.std.proofs.Common.{◌≤◌, ◌<◌, ℕ}
use Rattle.fw_calendar.specs.Periods.{IsPlace}
use Rattle.fw_calendar.proofs.steps.start_of_last.Given as goal

-- the hours so far lie in places behind the one before the first
abbrev pub invariant-loop-start : goal.invariant-loop-start
invariant-loop-start l = (l.start ≤ l.hour)
    × ((other : ℕ) → l.start ≤ other → other ≤ l.hour → (place : ℕ) × IsPlace l.step other place × (l.before < place))

abbrev pub decreases-loop-start : goal.decreases-loop-start
decreases-loop-start l = l.start
