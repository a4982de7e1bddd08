-- Faults as plain values, and how they are counted.
use Rattle.std.specs.Prelude.{◌≡◌, ◌⊎◌, ℕ, ◌+◌, Bool, ◌&&◌, List, [], ◌∷◌, ◌++◌, length, map, nat_lt, Option, Some, None, IsSome, if◌then◌else◌, string_bytes}
use Rattle.std.specs.Str.{bytes_eq}
use Rattle.fw_rows.specs.Columns.{name_of}
use Rattle.fw_rows.specs.declared.column.Column.{Column}
use Rattle.fw_rows.specs.declared.column.Column.TheVariants as column
use Rattle.fw_rows.specs.declared.fault.RecordFault.{RecordFault}
use Rattle.fw_rows.specs.declared.fault.RecordFault.TheVariants as fault
use Rattle.fw_check.specs.Counts.{kept}
use Rattle.fw_check.specs.declared.findings.Place.{Place}
use Rattle.fw_check.specs.declared.findings.Finding.{Finding}

-- the name of the column of a fault; the empty text where the fault is of the whole record
abbrev pub column_text : Option Column → List ℕ
column_text None = []
column_text (Some c) = name_of c

-- the columns in which a record can have a fault; none where the fault is of the whole record
abbrev pub CanStandIn : RecordFault → Option Column → Type 0
CanStandIn fault.Fields c = c ≡ None
CanStandIn fault.NotUtf8 c = Unit {0}
CanStandIn fault.Category c = c ≡ Some column.ChargeCategory
CanStandIn fault.Class c = c ≡ Some column.ChargeClass
CanStandIn fault.Cost c = (c ≡ Some column.BilledCost) ⊎ (c ≡ Some column.EffectiveCost)
CanStandIn fault.Currency c = c ≡ Some column.BillingCurrency
CanStandIn fault.Time c = (c ≡ Some column.ChargePeriodStart) ⊎ (c ≡ Some column.ChargePeriodEnd)
CanStandIn fault.PeriodOrder c = c ≡ Some column.ChargePeriodEnd
CanStandIn fault.Commitment c = c ≡ Some column.CommitmentDiscountCategory
CanStandIn fault.Status c = c ≡ Some column.CommitmentDiscountStatus
CanStandIn fault.Quantity c = c ≡ Some column.ConsumedQuantity
CanStandIn fault.BadTags c = c ≡ Some column.Tags
CanStandIn fault.TooLong c = IsSome c
CanStandIn fault.TagTwice c = c ≡ Some column.Tags

-- a place of a fault: the line, the number of the record, and the part of the value that is shown
pub record PlaceValue : Type 0 where
  pub line : ℕ
  pub number : ℕ
  pub value : List ℕ

-- faults of one code in one column: what was expected, how many there are, and the first places
pub record FindingValue : Type 0 where
  pub code : List ℕ
  pub column : List ℕ
  pub expected : List ℕ
  pub count : ℕ
  pub places : List PlaceValue

abbrev pub place_value : Place → PlaceValue
place_value p = record { line = p.line; number = p.record; value = string_bytes p.value }

abbrev pub finding_value : Finding → FindingValue
finding_value f = record { code = f.code.now; column = string_bytes f.column; expected = f.expected.now; count = f.count; places = map place_value f.places.items }

-- the places of a finding are its first ones, at most so many
abbrev pub most_places : ℕ
most_places = 3

abbrev pub with_place : PlaceValue → List PlaceValue → List PlaceValue
with_place place places = if nat_lt (length places) most_places then places ++ place ∷ [] else places

-- one more fault of a finding
abbrev pub one_more : PlaceValue → FindingValue → FindingValue
one_more place f = record { code = f.code; column = f.column; expected = f.expected; count = kept (f.count + 1); places = with_place place f.places }

-- whether a finding is of a code in a column
abbrev pub is_of : List ℕ → List ℕ → FindingValue → Bool
is_of code column f = bytes_eq f.code code && bytes_eq f.column column

-- The findings after one more fault. The finding of its code and column counts it; where there is none, a new one goes last.
abbrev pub noted : List ℕ → List ℕ → List ℕ → PlaceValue → List FindingValue → List FindingValue
noted code column expected place [] = record { code = code; column = column; expected = expected; count = 1; places = place ∷ [] } ∷ []
noted code column expected place (f ∷ fs) = if is_of code column f then one_more place f ∷ fs else f ∷ noted code column expected place fs
