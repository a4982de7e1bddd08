use Rattle.std.proofs.Common.{◌≡◌, ◌++◌, map, take}
use Rattle.std.specs.Prelude.{string_bytes}
use Rattle.serde_json.specs.Written.{compact_text}
use Rattle.fw_selections.specs.JsonMembers.{listed}
use Rattle.fw_selections.specs.JsonText.{columns_of, row_object}
use Rattle.fw_selections.specs.Shown.{row_value}
use Rattle.fw_selections.proofs.json.push_rows.Given as goal

-- the objects of the rows so far
abbrev pub invariant-loop-place : goal.invariant-loop-place
invariant-loop-place l = string_bytes l.text ≡ string_bytes l.initial.text ++ listed (map (λ row. compact_text (row_object (columns_of l.sheet) (row_value row))) (take l.place l.rows))
