-- Direct reports of shards, by the periods in which they lie, and what they come to.
use Rattle.std.specs.Prelude.{◌≡◌, ◌≤◌, [], ℕ, List, None, Option, Some}
use Rattle.std.specs.List.{AllZip}
use Rattle.fw_calendar.specs.declared.steps.Period.{Period}
use Rattle.fw_calendar.specs.declared.steps.Step.{Step}
use Rattle.fw_entry.specs.Entry as entry
use Rattle.fw_query.specs.Limits.{most_total}
use Rattle.fw_series.specs.declared.series.Part.{Part}
use Rattle.fw_series.specs.declared.series.Series.{Series}
use Rattle.fw_shards.specs.Added.{AreDirectOnEach, all_of, direct_size}
use Rattle.fw_shards.specs.Asked.{AreShardsOf, AskedValue}
use Rattle.fw_shards.specs.Charged.{IsChargedReport}
use Rattle.fw_sums.specs.Costs.{Cost}
use Rattle.fw_sums.specs.Totals.{AreTotals}
use Rattle.fw_terms.specs.Policy.{PolicyValue}

-- a period, and the direct reports that lie in it
pub record SlotValue : Type 0 where
  pub period : Period
  pub reports : List (List Cost)

-- the periods of a range, and what it was cut by
pub record SheetValue : Type 0 where
  pub step : Option Step
  pub slots : List SlotValue

-- what direct reports add up to, where a report can have it
pub record IsSum (reports : List (List Cost)) (sum : List Cost) : Type 0 where
  pub totals : AreTotals (all_of reports) sum
  pub small : direct_size sum ≤ most_total

-- the part has the report of what the direct reports of a period add up to
pub record IsChargedPart (policy : Option PolicyValue) (key : List ℕ) (slot : SlotValue) (part : Part) : Type 0 where
  pub period : part.period ≡ slot.period
  pub sum : List Cost
  pub is_sum : IsSum slot.reports sum
  pub report : IsChargedReport policy key sum part.report

-- the report has what the direct reports of all periods add up to, first those of each period
pub record IsChargedWhole (policy : Option PolicyValue) (key : List ℕ) (slots : List SlotValue) (series : Series) : Type 0 where
  pub sums : List (List Cost)
  pub are_sums : AllZip (λ slot sum. IsSum slot.reports sum) slots sums
  pub sum : List Cost
  pub is_sum : IsSum sums sum
  pub report : IsChargedReport policy key sum series.whole

-- with a step a part for each period; else none
abbrev pub AreChargedParts : Option PolicyValue → List ℕ → Option Step → List SlotValue → List Part → Type 0
AreChargedParts policy key None slots parts = parts ≡ []
AreChargedParts policy key (Some step) slots parts = AllZip (IsChargedPart policy key) slots parts

-- what the direct reports of a sheet come to under a policy or none
pub record IsCharged (policy : Option PolicyValue) (key : List ℕ) (sheet : SheetValue) (series : Series) : Type 0 where
  pub whole : IsChargedWhole policy key sheet.slots series
  pub parts : AreChargedParts policy key sheet.step sheet.slots series.parts.items

-- the reports of a period are the direct reports of shards of one warehouse, which are asked for hours of it
pub record HoldsShards (whole : List entry.EntryValue) (key : List ℕ) (slot : SlotValue) : Type 0 where
  pub asked : List AskedValue
  pub shards : AreShardsOf whole slot.period.from slot.period.to asked
  pub direct : AreDirectOnEach key asked slot.reports
