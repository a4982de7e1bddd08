-- The text of lines as it is written, hour by hour. The private functions of the listing cite it.
use Rattle.std.specs.Prelude.{◌≡◌, ◌+◌, ◌++◌, ℕ, List, map, Vec}
use Rattle.std.specs.declared.alloc.Global.{Global}
use Rattle.std.specs.List.{concat}
use Rattle.csv.specs.declared.writer.Writer.{Writer}
use Rattle.fw_charge.specs.Charge.{Charge}
use Rattle.fw_terms.specs.Commitment.{CommitmentValue}
use Rattle.fw_amortise.specs.LineValue.{LineValue}
use Rattle.fw_amortise.specs.Lines.{AreHourLines}
use Rattle.fw_sums.specs.RangeLines.{AreRangeLines, joined}
use Rattle.fw_sums.specs.Sums.{AreHourlyOf}
use Rattle.fw_query.specs.Texts.{line_fields, lines_text, record_line}
use Rattle.fw_query.specs.Writers.{HasWritten}

-- the records of lines, one after the other
abbrev pub records : List LineValue → List ℕ
records lines = concat (map record_line (map line_fields lines))

-- after the text that was written the records of the lines of an hour, whose rows are these
pub record WritesHour (writer : Writer (Vec ℕ Global)) (text : List ℕ) (cs : List CommitmentValue) (rows : List Charge) (hour : ℕ) : Type 0 where
  pub lines : List LineValue
  pub are_lines : AreHourLines cs rows hour lines
  pub wrote : HasWritten writer (text ++ records lines)

-- after the text that was written the records of the lines of hours in turn, from this one on, whose rows are these
pub record WritesHours (writer : Writer (Vec ℕ Global)) (text : List ℕ) (cs : List CommitmentValue) (by_hour : List (List Charge)) (from : ℕ) : Type 0 where
  pub hourly : List (List LineValue)
  pub are_hourly : AreHourlyOf cs from by_hour hourly
  pub wrote : HasWritten writer (text ++ records (joined hourly))

-- the text is that of the lines of so many hours from this one on
pub record IsListing (cs : List CommitmentValue) (rows : List Charge) (from hours : ℕ) (text : List ℕ) : Type 0 where
  pub lines : List LineValue
  pub are_lines : AreRangeLines cs rows from (from + hours) lines
  pub text_is : text ≡ lines_text lines
