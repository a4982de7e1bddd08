use Rattle.std.proofs.Common.{List, ℕ, ◌++◌, map, take}
use Rattle.std.specs.List.{concat}
use Rattle.fw_query.specs.Texts.{fields_of, record_line}
use Rattle.fw_query.specs.Writers.{HasWritten}
use Rattle.fw_query.proofs.text.write_entries.Given as goal

-- the records so far are written
abbrev pub invariant-loop-entry : goal.invariant-loop-entry
invariant-loop-entry l = (text : List ℕ) → HasWritten l.initial.writer text → HasWritten l.writer (text ++ concat (map record_line (map fields_of (take l.entry-index l.entries))))
