use Rattle.std.proofs.Common.{◌≡◌, ◌++◌, drop}
use Rattle.fw_allocated.specs.LineRows.{exported_lines}
use Rattle.fw_allocated.specs.SourceView.{line_rows_of}
use Rattle.fw_allocated.proofs.sources.exported_lines.Given as goal

-- what is exported, and what is left to export, are all of the lines
abbrev pub invariant-loop-line : goal.invariant-loop-line
invariant-loop-line l = exported_lines (line_rows_of l.rows) l.lines ≡ l.exports.items ++ exported_lines (line_rows_of l.left) (drop l.line-index l.lines)
