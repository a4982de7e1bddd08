-- A range of hours, cut where hours, days or months begin.
use Rattle.std.specs.Prelude.{◌≡◌, ◌≢◌, ◌<◌, ◌≤◌, ◌/◌, ◌*◌, ◌+◌, ◌-◌, ℕ, unsigned_abs, List, [], ◌∷◌}
use Rattle.jiff_core.specs.declared.civil.date.Date.{Date}
use Rattle.fw_calendar.specs.Shown.{IsDateOf}
use Rattle.fw_calendar.specs.declared.steps.Step.{Step}
use Rattle.fw_calendar.specs.declared.steps.Step.TheVariants.{Hour, Day, Month}
use Rattle.fw_calendar.specs.declared.steps.Period.{Period}
use Rattle.fw_charge.specs.Charge.{last_hour}

-- the number of the hour, the day or the month in which an hour lies: hours and days are counted from 1970, months from the year 0
abbrev pub IsPlace : Step → ℕ → ℕ → Type 0
IsPlace Hour hour place = place ≡ hour
IsPlace Day hour place = place ≡ hour / 24
IsPlace Month hour place = hour ≤ last_hour → (date : Date) × IsDateOf hour date × (place ≡ unsigned_abs date.year * 12 + date.month)

-- a period is the longest that begins here, lies in one hour, day or month, and ends no later than the range
pub record IsPeriod (step : Step) (from to : ℕ) (period : Period) : Type 0 where
  pub begins : period.from ≡ from
  pub some : from < period.to
  pub within : period.to ≤ to
  pub place : ℕ
  pub one : (hour : ℕ) → from ≤ hour → hour < period.to → IsPlace step hour place
  pub longest : period.to < to → (other : ℕ) × IsPlace step period.to other × (other ≢ place)

-- from this hour on, up to one that lies in the place `last`, hours lie in the `count` places that end with it, and the hour
-- before doesn't; from hour 0 on where there are no more than so many
pub record IsStart (step : Step) (count hour start : ℕ) : Type 0 where
  pub within : start ≤ hour
  pub last : ℕ
  pub here : IsPlace step hour last
  pub all : last < count → start ≡ 0
  pub one : count ≤ last → (other : ℕ) → start ≤ other → other ≤ hour → (place : ℕ) × IsPlace step other place × (last < place + count)
  pub longest : 0 < start → (place : ℕ) × IsPlace step (start - 1) place × (place + count ≤ last)

-- the last hours, days or months up to the one in which an hour lies, to its end
pub record AreLast (step : Step) (count hour : ℕ) (period : Period) : Type 0 where
  pub starts : IsStart step count hour period.from
  pub ends : IsPeriod step hour (last_hour + 1) (record { from = hour; to = period.to })

-- the month of the calendar that begins with an hour
abbrev pub IsMonth : Period → Type 0
IsMonth period = IsPeriod Month period.from (last_hour + 1) period

-- the periods of the range are in order and adjacent, and no hour of it is left
abbrev pub ArePeriods : Step → ℕ → ℕ → List Period → Type 0
ArePeriods step from to [] = from ≡ to
ArePeriods step from to (period ∷ periods) = IsPeriod step from to period × ArePeriods step period.to to periods
