-- How the second of an instant is written.
use Rattle.std.specs.Prelude.{◌≡◌, ◌<◌, ◌≤◌, ◌/◌, ◌%◌, ◌^◌, ◌-◌, ◌++◌, ◌∷◌, ℕ, pos, unsigned_abs, false, List, [], codes}
use Rattle.std.specs.Fmt.{decimal, format_spec, padded_integral}
use Rattle.jiff_core.specs.Calendar.{IsCivilDate}
use Rattle.jiff_core.specs.Date.{epoch_day}
use Rattle.jiff_core.specs.declared.civil.date.Date.{Date}
use Rattle.fw_charge.specs.Charge.{last_second}

abbrev pub seconds_per_day : ℕ
seconds_per_day = 86400

-- the date of the day in which a second since 1970 lies, which the calendar has
abbrev pub IsDateOf : ℕ → Date → Type 0
IsDateOf second date = (epoch_day date ≡ pos (second / seconds_per_day)) × IsCivilDate date.year date.month date.day

-- a number with at least so many digits, with zeros in front: what the format `{:0width}` writes
abbrev pub digits : ℕ → ℕ → List ℕ
digits width n = padded_integral (format_spec 32 0 4 width (2 ^ 64 - 1)) false [] (decimal n)

-- a date and a time of its day in seconds, as `2024-01-31T14:00:59Z`; the time is that of UTC
abbrev pub instant_digits : ℕ → ℕ → ℕ → ℕ → List ℕ
instant_digits year month day time =
    digits 4 year ++ (45 ∷ (digits 2 month ++ (45 ∷ (digits 2 day ++ (84 ∷ (digits 2 (time / 3600)
    ++ (58 ∷ (digits 2 (time % 3600 / 60) ++ (58 ∷ (digits 2 (time % 60) ++ codes "Z"))))))))))

-- the text is the instant of a second since 1970, as `2024-01-31T14:00:59Z`; past the year 9999, the number of the second
pub record IsSecondText (second : ℕ) (text : List ℕ) : Type 0 where
  pub dated : second ≤ last_second → (date : Date) × IsDateOf second date × (text ≡ instant_digits (unsigned_abs date.year) date.month date.day (second % seconds_per_day))
  pub past : last_second < second → text ≡ decimal second
