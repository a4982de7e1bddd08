use Rattle.std.proofs.Common.{List, ℕ, ◌++◌, map, take}
use Rattle.std.specs.List.{concat}
use Rattle.fw_query.specs.Texts.{line_fields, record_line}
use Rattle.fw_query.specs.Writers.{HasWritten}
use Rattle.fw_query.proofs.line_text.write_lines.Given as goal

-- the records so far are written
abbrev pub invariant-loop-line : goal.invariant-loop-line
invariant-loop-line l = (text : List ℕ) → HasWritten l.initial.writer text → HasWritten l.writer (text ++ concat (map record_line (map line_fields (take l.line-index l.lines))))
