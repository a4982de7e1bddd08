-- How hours, days and months are written.
use Rattle.std.specs.Prelude.{◌≡◌, ◌<◌, ◌≤◌, ◌-◌, ◌/◌, ◌%◌, ◌^◌, ◌++◌, ◌∷◌, ℕ, pos, unsigned_abs, false, List, [], codes}
use Rattle.std.specs.Fmt.{decimal, padded_integral, format_spec}
use Rattle.jiff_core.specs.Calendar.{IsCivilDate}
use Rattle.jiff_core.specs.Date.{epoch_day}
use Rattle.jiff_core.specs.declared.civil.date.Date.{Date}
use Rattle.fw_calendar.specs.declared.steps.Step.{Step}
use Rattle.fw_calendar.specs.declared.steps.Step.TheVariants.{Hour, Day, Month}
use Rattle.fw_charge.specs.Charge.{last_hour}

-- the date of the day in which an hour lies, which the calendar has
abbrev pub IsDateOf : ℕ → Date → Type 0
IsDateOf hour date = (epoch_day date ≡ pos (hour / 24)) × IsCivilDate date.year date.month date.day

-- a number with at least so many digits, with zeros in front: what the format `{:0width}` writes
abbrev pub digits : ℕ → ℕ → List ℕ
digits width n = padded_integral (format_spec 32 0 4 width (2 ^ 64 - 1)) false [] (decimal n)

-- a month as `2024-01`, a day as `2024-01-31`, an hour as `2024-01-31T14:00Z`
abbrev pub month_digits : ℕ → ℕ → List ℕ
month_digits year month = digits 4 year ++ (45 ∷ digits 2 month)

abbrev pub day_digits : ℕ → ℕ → ℕ → List ℕ
day_digits year month day = digits 4 year ++ (45 ∷ (digits 2 month ++ (45 ∷ digits 2 day)))

abbrev pub hour_digits : ℕ → ℕ → ℕ → ℕ → List ℕ
hour_digits year month day time = digits 4 year ++ (45 ∷ (digits 2 month ++ (45 ∷ (digits 2 day ++ (84 ∷ (digits 2 time ++ codes ":00Z"))))))

-- an hour that no date has is its number
abbrev pub number_digits : ℕ → List ℕ
number_digits hour = codes "hour " ++ decimal hour

-- the text is what is written of a date's month, day or hour; past the year 9999, the number of the hour
pub record IsTextBy (written : Date → List ℕ) (hour : ℕ) (text : List ℕ) : Type 0 where
  pub dated : hour ≤ last_hour → (date : Date) × IsDateOf hour date × (text ≡ written date)
  pub past : last_hour < hour → text ≡ number_digits hour

abbrev pub IsMonthText : ℕ → List ℕ → Type 0
IsMonthText hour text = IsTextBy (λ date. month_digits (unsigned_abs date.year) date.month) hour text

abbrev pub IsDayText : ℕ → List ℕ → Type 0
IsDayText hour text = IsTextBy (λ date. day_digits (unsigned_abs date.year) date.month date.day) hour text

abbrev pub IsHourText : ℕ → List ℕ → Type 0
IsHourText hour text = IsTextBy (λ date. hour_digits (unsigned_abs date.year) date.month date.day (hour % 24)) hour text

-- the text of the hour, the day or the month in which an hour lies
abbrev pub IsStepText : Step → ℕ → List ℕ → Type 0
IsStepText Hour hour text = IsHourText hour text
IsStepText Day hour text = IsDayText hour text
IsStepText Month hour text = IsMonthText hour text
