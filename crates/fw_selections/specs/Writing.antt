-- Records as they are written, one after the other. The private functions that write records cite it.
use Rattle.std.specs.Prelude.{◌++◌, ℕ, Bool, List, Vec}
use Rattle.std.specs.declared.alloc.Global.{Global}
use Rattle.csv.specs.declared.writer.Writer.{Writer}
use Rattle.fw_query.specs.Writers.{HasWritten}
use Rattle.fw_select.specs.Groups.{GroupCost}
use Rattle.fw_selections.specs.CsvText.{AreRecords, PlacedRow, placed_rows}
use Rattle.fw_selections.specs.Written.{AreChosen, parts_by}
use Rattle.fw_selections.specs.declared.parts.Selections.{Selections}
use Rattle.fw_selections.specs.declared.sheet.Sheet.{Sheet}

-- after the text that was written the records of rows
pub record WritesRecords (writer : Writer (Vec ℕ Global)) (text : List ℕ) (sheet : Sheet) (rows : List PlacedRow) : Type 0 where
  pub added : List ℕ
  pub are_records : AreRecords sheet rows added
  pub wrote : HasWritten writer (text ++ added)

-- after the text that was written the records of the rows of selections
pub record WritesShown (writer : Writer (Vec ℕ Global)) (text : List ℕ) (selections : Selections) (sheet : Sheet) : Type 0 where
  pub chosen : GroupCost → Bool
  pub are_chosen : AreChosen sheet.top selections.whole chosen
  pub writes : WritesRecords writer text sheet (placed_rows sheet chosen (parts_by sheet.step sheet.hours selections))
