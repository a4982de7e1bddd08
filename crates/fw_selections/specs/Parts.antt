-- The selections of the periods of a range.
use Rattle.std.specs.Prelude.{◌≡◌, ℕ, List, [], map, All, Option, Some, None}
use Rattle.fw_calendar.specs.Periods.{ArePeriods}
use Rattle.fw_calendar.specs.declared.steps.Step.{Step}
use Rattle.fw_entry.specs.Entry as entry
use Rattle.fw_select.specs.Selections.{IsSelection}
use Rattle.fw_select.specs.declared.selector.Selector.{Selector}
use Rattle.fw_selections.specs.declared.parts.SelectedPart.{SelectedPart}

-- a part has the selection of its own hours
abbrev pub IsPartSelection : List entry.EntryValue → Selector → SelectedPart → Type 0
IsPartSelection history s part = IsSelection history s part.period.from part.period.to part.selection

-- the parts are the periods of the range, each with its selection
pub record AreParts (history : List entry.EntryValue) (s : Selector) (from to : ℕ) (step : Step) (parts : List SelectedPart) : Type 0 where
  pub periods : ArePeriods step from to (map (λ p. p.period) parts)
  pub selections : All (IsPartSelection history s) parts

-- with a step, the parts of the range; else none
abbrev pub ArePartsBy : List entry.EntryValue → Selector → ℕ → ℕ → Option Step → List SelectedPart → Type 0
ArePartsBy history s from to None parts = parts ≡ []
ArePartsBy history s from to (Some step) parts = AreParts history s from to step parts
