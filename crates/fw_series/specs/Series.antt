-- The reports of the periods of a range.
use Rattle.std.specs.Prelude.{◌≡◌, ◌<◌, ◌≤◌, ◌⊎◌, ℕ, ℤ, List, [], map, All, Option, Some, None}
use Rattle.fw_allocate.specs.Costs.{total}
use Rattle.fw_calendar.specs.Periods.{ArePeriods}
use Rattle.fw_calendar.specs.declared.steps.Step.{Step}
use Rattle.fw_entry.specs.Entry as entry
use Rattle.fw_query.specs.OfHistory.{IsReportOn}
use Rattle.fw_query.specs.Refusals.{IsRefused}
use Rattle.fw_query.specs.declared.fault.QueryFault.{QueryFault}
use Rattle.fw_snapshot.specs.History.{commitments_of, rows_of}
use Rattle.fw_series.specs.Sums.{billed_in, charged_in, direct_in}
use Rattle.fw_series.specs.declared.series.Part.{Part}
use Rattle.fw_series.specs.declared.series.Series.{Series}

-- a part has the report of its own hours
abbrev pub IsPartReport : List entry.EntryValue → List ℕ → Part → Type 0
IsPartReport history key part = IsReportOn history key part.period.from part.period.to part.report

-- the parts are the periods of the range, each with its report
pub record AreParts (history : List entry.EntryValue) (key : List ℕ) (from to : ℕ) (step : Step) (parts : List Part) : Type 0 where
  pub periods : ArePeriods step from to (map (λ p. p.period) parts)
  pub reports : All (IsPartReport history key) parts

-- with a step, the parts of the range; else none
abbrev pub ArePartsBy : List entry.EntryValue → List ℕ → ℕ → ℕ → Option Step → List Part → Type 0
ArePartsBy history key from to None parts = parts ≡ []
ArePartsBy history key from to (Some step) parts = AreParts history key from to step parts

-- the report of a range, and its parts
pub record IsSeries (history : List entry.EntryValue) (key : List ℕ) (from to : ℕ) (step : Option Step) (series : Series) : Type 0 where
  pub whole : IsReportOn history key from to series.whole
  pub parts : ArePartsBy history key from to step series.parts.items

-- there is no report on a history under a key for this reason
abbrev pub IsRefusedOn : List entry.EntryValue → List ℕ → ℕ → ℕ → QueryFault → Type 0
IsRefusedOn history key from to fault =
    IsRefused (commitments_of history) (rows_of history) key from to fault

-- there is no report of some hours of the range for this reason
pub record IsPartRefused (history : List entry.EntryValue) (key : List ℕ) (from to : ℕ) (fault : QueryFault) : Type 0 where
  pub low : ℕ
  pub high : ℕ
  pub begins : from ≤ low
  pub some : low < high
  pub ends : high ≤ to
  pub refused : IsRefusedOn history key low high fault

-- there is no report of the range or, where it is cut, of some hours of it
abbrev pub IsSeriesRefused : List entry.EntryValue → List ℕ → ℕ → ℕ → Option Step → QueryFault
    → Type 0
IsSeriesRefused history key from to None fault = IsRefusedOn history key from to fault
IsSeriesRefused history key from to (Some step) fault =
    IsRefusedOn history key from to fault ⊎ IsPartRefused history key from to fault

-- the sums over all groups of all parts
abbrev pub billed_of_parts : List Part → ℤ
billed_of_parts parts = total (map (λ p. billed_in p.report) parts)

abbrev pub direct_of_parts : List Part → ℤ
direct_of_parts parts = total (map (λ p. direct_in p.report) parts)

abbrev pub charged_of_parts : List Part → ℤ
charged_of_parts parts = total (map (λ p. charged_in p.report) parts)
