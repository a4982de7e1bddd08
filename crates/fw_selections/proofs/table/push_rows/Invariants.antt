use Rattle.std.proofs.Common.{map, take}
use Rattle.std.specs.Prelude.{string_bytes}
use Rattle.fw_selections.specs.Lines.{AddsRows}
use Rattle.fw_selections.specs.Shown.{row_value}
use Rattle.fw_selections.specs.TableText.{line_value}
use Rattle.fw_selections.proofs.table.push_rows.Given as goal

-- the lines of the rows so far
abbrev pub invariant-loop-row : goal.invariant-loop-row
invariant-loop-row l =
    AddsRows (map line_value l.initial.lines.items) (map line_value l.lines.items) l.sheet (map string_bytes l.period) l.fn.all (map row_value (take l.row-index l.rows))
