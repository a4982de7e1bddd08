use Rattle.std.proofs.Common.{◌≤◌, ◌<◌, ℕ}
use Rattle.fw_calendar.specs.Periods.{IsPlace}
use Rattle.fw_calendar.proofs.steps.end_of.Given as goal

-- the hours so far lie in one place
abbrev pub invariant-loop-hour : goal.invariant-loop-hour
invariant-loop-hour l = (h : ℕ) → h < l.hour → l.start ≤ h → IsPlace l.step h l.place
