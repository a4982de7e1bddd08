-- Rows as they are written, one after the other. The private functions that write rows cite it.
use Rattle.std.specs.Prelude.{◌++◌, ℕ, List, Vec}
use Rattle.std.specs.declared.alloc.Global.{Global}
use Rattle.csv.specs.declared.writer.Writer.{Writer}
use Rattle.fw_charge.specs.Charge.{Charge}
use Rattle.fw_query.specs.Writers.{HasWritten}
use Rattle.fw_allocated.specs.Texts.{AreRowTexts, IsRowText}
use Rattle.fw_allocated.specs.declared.format.ExportFormat.TheVariants.{Csv}

-- after the text that was written the record of a row
pub record WritesRow (writer : Writer (Vec ℕ Global)) (text currency : List ℕ) (row : Charge) : Type 0 where
  pub record_text : List ℕ
  pub is_record : IsRowText Csv currency row record_text
  pub wrote : HasWritten writer (text ++ record_text)

-- the records of rows, and nothing else
pub record WritesRows (writer : Writer (Vec ℕ Global)) (currency : List ℕ) (rows : List Charge) : Type 0 where
  pub text : List ℕ
  pub are_records : AreRowTexts Csv currency rows text
  pub wrote : HasWritten writer text
