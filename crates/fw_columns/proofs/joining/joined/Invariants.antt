use Rattle.std.proofs.Common.{◌<◌, ℕ, List, length, take}
use Rattle.std.specs.List.{flat_map}
use Rattle.fw_charge.specs.Charge.{Charge}
use Rattle.fw_row_table.specs.Table.{AreColumns}
use Rattle.fw_row_table.specs.declared.table.Table.{Table}
use Rattle.fw_columns.proofs.joining.joined.Given as goal

-- the table of the rows of the first parts
pub record HaveJoined (t : Table) (rows : List Charge) (n : ℕ) : Type 0 where
  pub columns : AreColumns t rows
  pub some : 0 < n → 0 < length rows

abbrev pub invariant-loop-part : goal.invariant-loop-part
invariant-loop-part l = HaveJoined l.table (flat_map (λ part. part.now) (take l.part-index l.parts)) l.part-index
