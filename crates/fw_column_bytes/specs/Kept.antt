-- Which rows have a spelling by column.
use Rattle.std.specs.Prelude.{◌<◌, ◌≤◌, List, length, All}
use Rattle.fw_charge.specs.Charge.{Charge}
use Rattle.fw_charge.specs.Spelling.{IsRow}
use Rattle.fw_row_table.specs.Table.{most_column_rows}

-- 1 to 65,536 rows, each of which has a spelling
pub record AreRows (rows : List Charge) : Type 0 where
  pub some : 0 < length rows
  pub few : length rows ≤ most_column_rows
  pub each : All IsRow rows
