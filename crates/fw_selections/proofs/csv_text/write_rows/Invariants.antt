use Rattle.std.proofs.Common.{List, ℕ, map, take}
use Rattle.fw_query.specs.Writers.{HasWritten}
use Rattle.fw_selections.specs.CsvText.{placed}
use Rattle.fw_selections.specs.Shown.{row_value}
use Rattle.fw_selections.specs.Writing.{WritesRecords}
use Rattle.fw_selections.proofs.csv_text.write_rows.Given as goal

-- the records of the rows so far are written
abbrev pub invariant-loop-row : goal.invariant-loop-row
invariant-loop-row l =
    (text : List ℕ) → HasWritten l.initial.writer text → WritesRecords l.writer text l.sheet (placed l.fn.hours (map row_value (take l.row-index l.rows)))
