-- Direct reports of the periods of a range.
use Rattle.std.specs.Prelude.{◌≡◌, [], ◌∷◌, ℕ, All, List, None, Option, Some, map}
use Rattle.fw_calendar.specs.Periods.{ArePeriods}
use Rattle.fw_calendar.specs.declared.steps.Period.{Period}
use Rattle.fw_calendar.specs.declared.steps.Step.{Step}
use Rattle.fw_direct.specs.declared.part.DirectPart.{DirectPart}
use Rattle.fw_entry.specs.Entry as entry
use Rattle.fw_shards.specs.Added.{IsDirectOn}

-- with a step, the periods that the range is cut into; else the range alone
abbrev pub ArePeriodsBy : Option Step → ℕ → ℕ → List Period → Type 0
ArePeriodsBy None from to periods = periods ≡ record { from = from; to = to } ∷ []
ArePeriodsBy (Some step) from to periods = ArePeriods step from to periods

-- a part has the direct report of its own hours
abbrev pub IsDirectPart : List entry.EntryValue → List ℕ → DirectPart → Type 0
IsDirectPart history key part = IsDirectOn history key part.period.from part.period.to part.report

-- the parts are the periods of the range, each with its direct report
pub record AreDirectParts (history : List entry.EntryValue) (key : List ℕ) (from to : ℕ) (step : Option Step) (parts : List DirectPart) : Type 0 where
  pub periods : ArePeriodsBy step from to (map (λ p. p.period) parts)
  pub reports : All (IsDirectPart history key) parts
