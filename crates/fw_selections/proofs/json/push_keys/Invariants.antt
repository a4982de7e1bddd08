use Rattle.std.proofs.Common.{◌≡◌, ◌++◌, map, take}
use Rattle.std.specs.Prelude.{string_bytes}
use Rattle.fw_selections.specs.JsonMembers.{members_line}
use Rattle.fw_selections.specs.JsonText.{key_members}
use Rattle.fw_selections.specs.Shown.{row_value}
use Rattle.fw_selections.proofs.json.push_keys.Given as goal

-- the members of the keys so far
abbrev pub invariant-loop-place : goal.invariant-loop-place
invariant-loop-place l =
    string_bytes l.text ≡ string_bytes l.initial.text ++ members_line (take l.place (key_members (map (λ key. key.name.now) l.keys) (row_value l.row).texts))
