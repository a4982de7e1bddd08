use Rattle.std.proofs.Common.{take}
use Rattle.std.specs.Prelude.{string_bytes}
use Rattle.fw_selections.specs.JsonMembers.{WritesParts}
use Rattle.fw_selections.specs.JsonText.{columns_of}
use Rattle.fw_selections.specs.Shown.{is_chosen}
use Rattle.fw_selections.proofs.json.push_parts.Given as goal

-- the objects of the periods so far
abbrev pub invariant-loop-place : goal.invariant-loop-place
invariant-loop-place l = WritesParts (string_bytes l.initial.text) (string_bytes l.text) (columns_of l.sheet) (is_chosen l.fn.chosen) (take l.place l.parts)
