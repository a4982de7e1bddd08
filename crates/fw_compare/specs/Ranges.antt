-- Whole months, and the hours that a range is compared with.
use Rattle.std.specs.Prelude.{◌≡◌, ◌<◌, ◌+◌, ◌-◌, ◌⊎◌, ℕ, zero, suc}
use Rattle.fw_calendar.specs.Periods.{IsMonth, IsStart}
use Rattle.fw_calendar.specs.declared.steps.Period.{Period}
use Rattle.fw_calendar.specs.declared.steps.Step.TheVariants.{Month}
use Rattle.fw_charge.specs.Charge.{last_hour}

-- ---- months

-- a month begins with an hour
abbrev pub BeginsMonth : ℕ → Type 0
BeginsMonth hour = IsStart Month 1 hour hour

-- from an hour on up to another one are so many months in a row, each to its end
abbrev pub AreMonthsUpTo : ℕ → ℕ → ℕ → Type 0
AreMonthsUpTo zero from to = from ≡ to
AreMonthsUpTo (suc n) from to = (end : ℕ) × IsMonth (record { from = from; to = end }) × AreMonthsUpTo n end to

-- a range is so many whole months
pub record AreMonths (n : ℕ) (hours : Period) : Type 0 where
  pub begins : BeginsMonth hours.from
  pub months : AreMonthsUpTo n hours.from hours.to

-- a range isn't whole months, however many
abbrev pub AreNoMonths : Period → Type 0
AreNoMonths hours = (n : ℕ) → ¬ AreMonths n hours

-- so many months from an hour on; fewer where the year 9999 ends within them
abbrev pub AreFirstMonths : ℕ → ℕ → ℕ → Type 0
AreFirstMonths n from to = AreMonthsUpTo n from to ⊎ ((m : ℕ) × AreMonthsUpTo m from to × (m < n) × (to ≡ last_hour + 1))

-- ---- what a range is compared with

-- the hours just before a range: as many months where it is whole months, fewer only where 1970 begins within them; else as many hours
pub record AreBefore (hours before : Period) : Type 0 where
  pub ends : before.to ≡ hours.from
  pub some : before.from < before.to
  pub months : (n : ℕ) → AreMonths n hours → IsStart Month n (hours.from - 1) before.from
  pub others : AreNoMonths hours → before.from + (hours.to - hours.from) ≡ hours.from

-- there are none: the range begins with 1970, or isn't whole months and has more hours than there are before it
abbrev pub HasNoneBefore : Period → Type 0
HasNoneBefore hours = (hours.from ≡ 0) ⊎ (AreNoMonths hours × (hours.from < hours.to - hours.from))

-- the hours from an hour on: as many months where the range is whole months and one begins with that hour; else as many hours
pub record AreFrom (hours : Period) (from : ℕ) (period : Period) : Type 0 where
  pub begins : period.from ≡ from
  pub months : (n : ℕ) → AreMonths n hours → BeginsMonth from → AreFirstMonths n from period.to
  pub others : AreNoMonths hours ⊎ (¬ BeginsMonth from) → period.to ≡ from + (hours.to - hours.from)
