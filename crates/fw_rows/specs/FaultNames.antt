-- The code and the name of a record's fault, as they are printed.
use Rattle.std.specs.Prelude.{ℕ, List, codes}
use Rattle.fw_rows.specs.declared.fault.RecordFault.{RecordFault}
use Rattle.fw_rows.specs.declared.fault.RecordFault.TheVariants as fault

unfoldable pub fault_name : RecordFault → List ℕ
fault_name fault.Fields = codes "V1 Fields"
fault_name fault.NotUtf8 = codes "V2 NotUtf8"
fault_name fault.Category = codes "V3 Category"
fault_name fault.Class = codes "V4 Class"
fault_name fault.Cost = codes "V5 Cost"
fault_name fault.Currency = codes "V6 Currency"
fault_name fault.Time = codes "V7 Time"
fault_name fault.PeriodOrder = codes "V8 PeriodOrder"
fault_name fault.Commitment = codes "V9 Commitment"
fault_name fault.Status = codes "V10 Status"
fault_name fault.Quantity = codes "V11 Quantity"
fault_name fault.BadTags = codes "V12 BadTags"
fault_name fault.TooLong = codes "V13 TooLong"
fault_name fault.TagTwice = codes "V17 TagTwice"
