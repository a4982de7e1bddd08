use Rattle.std.proofs.Common.{◌≡◌, ◌++◌, map, string_bytes, take}
use Rattle.fw_select.specs.Names.{behind}
use Rattle.fw_select.proofs.name.group_name.Given as goal

-- the texts so far are named
abbrev pub invariant-loop-text : goal.invariant-loop-text
invariant-loop-text l = string_bytes l.name ≡ string_bytes l.initial.name ++ behind (map string_bytes (take l.text-index l.rest))
