-- What a CSV writer over memory has written. The private functions of the text cite it.
use Rattle.std.specs.Prelude.{◌≡◌, ℕ, List, Some, Vec, false}
use Rattle.std.specs.declared.alloc.Global.{Global}
use Rattle.csv.specs.Writing.{default_writer, fields_written, has_written, text_written, writer_setup}
use Rattle.csv.specs.declared.writer.Writer.{Writer}

-- the writer writes by default, stands before a record, and this is the text that it has written
pub record HasWritten (writer : Writer (Vec ℕ Global)) (text : List ℕ) : Type 0 where
  pub setup : writer_setup writer ≡ default_writer
  pub fields : fields_written writer ≡ 0
  pub wrote : has_written writer ≡ false
  pub text_is : text_written (λ (v : Vec ℕ Global). Some v.items) writer ≡ Some text
