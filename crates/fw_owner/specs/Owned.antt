-- What one group of a report cost.
use Rattle.std.specs.Prelude.{◌≡◌, ◌+◌, ◌<◌, ◌≤◌, ◌⊎◌, ℕ, Bool, All, List, [], map, Option, Some, None, option_map, is_some, unwrap_or}
use Rattle.std.specs.List.{find}
use Rattle.std.specs.Str.{bytes_eq}
use Rattle.fw_calendar.specs.Periods.{ArePeriods}
use Rattle.fw_calendar.specs.declared.steps.Period.{Period}
use Rattle.fw_calendar.specs.declared.steps.Step.{Step}
use Rattle.fw_charge.specs.Charge.{last_hour}
use Rattle.fw_compare.specs.Costs.{less, none}
use Rattle.fw_compare.specs.Ranges.{AreBefore, HasNoneBefore}
use Rattle.fw_compare.specs.declared.costs.Costs.{Costs}
use Rattle.fw_entry.specs.Entry as entry
use Rattle.fw_query.specs.OfHistory.{IsReportOn}
use Rattle.fw_query.specs.Reports.{EntryValue}
use Rattle.fw_query.specs.declared.fault.QueryFault.{QueryFault}
use Rattle.fw_series.specs.Series.{IsRefusedOn}
use Rattle.fw_owner.specs.declared.owned.Before.{Before}
use Rattle.fw_owner.specs.declared.owned.Owned.{Owned}
use Rattle.fw_owner.specs.declared.owned.Stretch.{Stretch}

-- whether an entry of a report is of this group
abbrev pub is_of : List ℕ → EntryValue → Bool
is_of group entry = bytes_eq entry.group group

-- the costs of an entry
abbrev pub costs_in : EntryValue → Costs
costs_in entry = record { billed = entry.billed; effective = entry.direct; charged = entry.charged }

-- what a report says of a group, where it has the group
abbrev pub found : List ℕ → List EntryValue → Option Costs
found group entries = option_map costs_in (find (is_of group) entries)

-- what a group cost: nothing where the report hasn't it
abbrev pub or_none : Option Costs → Costs
or_none costs = unwrap_or costs none

-- what the report of some hours says of a group
pub record IsFound (history : List entry.EntryValue) (key group : List ℕ) (from to : ℕ) (costs : Option Costs) : Type 0 where
  pub entries : List EntryValue
  pub report : IsReportOn history key from to entries
  pub costs_are : costs ≡ found group entries

-- what a group cost in the hours before others, and how much more it costs in these
pub record IsBefore (history : List entry.EntryValue) (key group : List ℕ) (hours : Period) (now : Costs) (before : Before) : Type 0 where
  pub are_before : AreBefore hours before.hours
  pub costs : Option Costs
  pub are_found : IsFound history key group before.hours.from before.hours.to costs
  pub costs_are : before.costs ≡ or_none costs
  pub change_is : before.change ≡ less now before.costs

-- the same, where there are hours before; nothing where there are none, or the hours end behind the year 9999
abbrev pub IsBeforeIfAny : List entry.EntryValue → List ℕ → List ℕ → Period → Costs → Option Before → Type 0
IsBeforeIfAny history key group hours now None = (last_hour + 1 < hours.to) ⊎ HasNoneBefore hours
IsBeforeIfAny history key group hours now (Some before) = IsBefore history key group hours now before

-- what a group cost in some hours, whether their report has it, and what it cost before
pub record IsStretch (history : List entry.EntryValue) (key group : List ℕ) (stretch : Stretch) : Type 0 where
  pub costs : Option Costs
  pub are_found : IsFound history key group stretch.hours.from stretch.hours.to costs
  pub costs_are : stretch.costs ≡ or_none costs
  pub there : stretch.is_there ≡ is_some costs
  pub before : IsBeforeIfAny history key group stretch.hours stretch.costs stretch.before

-- the same of each period of a range
pub record AreStretches (history : List entry.EntryValue) (key group : List ℕ) (from to : ℕ) (step : Step) (parts : List Stretch) : Type 0 where
  pub periods : ArePeriods step from to (map (λ s. s.hours) parts)
  pub each : All (IsStretch history key group) parts

abbrev pub AreStretchesBy : List entry.EntryValue → List ℕ → List ℕ → ℕ → ℕ → Option Step → List Stretch → Type 0
AreStretchesBy history key group from to None parts = parts ≡ []
AreStretchesBy history key group from to (Some step) parts = AreStretches history key group from to step parts

-- what a group cost in a range of hours and, where there is a step, in each period of it
pub record IsOwned (history : List entry.EntryValue) (key group : List ℕ) (from to : ℕ) (step : Option Step) (owned : Owned) : Type 0 where
  pub begins : owned.whole.hours.from ≡ from
  pub ends : owned.whole.hours.to ≡ to
  pub whole : IsStretch history key group owned.whole
  pub parts : AreStretchesBy history key group from to step owned.parts.items

-- there is no report of some hours up to the end of a range, for this reason
pub record IsRefusedUpTo (history : List entry.EntryValue) (key : List ℕ) (to : ℕ) (fault : QueryFault) : Type 0 where
  pub low : ℕ
  pub high : ℕ
  pub some : low < high
  pub ends : high ≤ to
  pub refused : IsRefusedOn history key low high fault

-- there is no report of a range, or of some hours up to its end
abbrev pub IsOwnedRefused : List entry.EntryValue → List ℕ → ℕ → ℕ → QueryFault → Type 0
IsOwnedRefused history key from to fault = IsRefusedOn history key from to fault ⊎ IsRefusedUpTo history key to fault
