-- A result's rows as plain values.
use Rattle.std.specs.Prelude.{List, Result, Ok, Err, Vec}
use Rattle.std.specs.declared.alloc.Global.{Global}
use Rattle.fw_charge.specs.Charge.{Charge}
use Rattle.fw_rows.specs.declared.fault.RowFault.{RowFault}

abbrev pub rows_shown : Result (Vec Charge Global) RowFault → Result (List Charge) RowFault
rows_shown (Ok rows) = Ok rows.items
rows_shown (Err fault) = Err fault
