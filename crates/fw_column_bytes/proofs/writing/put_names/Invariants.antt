use Rattle.std.proofs.Common.{◌≡◌, ◌++◌, length, take}
use Rattle.std.specs.List.{flat_map}
use Rattle.fw_bytes.specs.Spelling.{number32, text}
use Rattle.fw_row_table.specs.Texts.{names_of}
use Rattle.fw_column_bytes.proofs.writing.put_names.Given as goal

-- the number and the names so far are written
abbrev pub invariant-loop-place : goal.invariant-loop-place
invariant-loop-place l = l.out.items ≡ l.fn.out.items ++ (number32 (length (names_of l.rows)) ++ flat_map text (take l.place (names_of l.rows)))
