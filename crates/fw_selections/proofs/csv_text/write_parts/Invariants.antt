use Rattle.std.proofs.Common.{List, ℕ, take}
use Rattle.fw_query.specs.Writers.{HasWritten}
use Rattle.fw_selections.specs.CsvText.{placed_rows}
use Rattle.fw_selections.specs.Shown.{is_chosen}
use Rattle.fw_selections.specs.Writing.{WritesRecords}
use Rattle.fw_selections.proofs.csv_text.write_parts.Given as goal

-- the records of the parts so far are written
abbrev pub invariant-loop-part : goal.invariant-loop-part
invariant-loop-part l =
    (text : List ℕ) → HasWritten l.initial.writer text → WritesRecords l.writer text l.sheet (placed_rows l.sheet (is_chosen l.fn.chosen) (take l.part-index l.parts))
