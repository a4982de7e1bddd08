use Rattle.std.proofs.Common.{◌≡◌, ◌++◌, map, take}
use Rattle.std.specs.Prelude.{string_bytes}
use Rattle.fw_selections.proofs.table.push_names.Given as goal

-- the names so far
abbrev pub invariant-loop-key : goal.invariant-loop-key
invariant-loop-key l = map string_bytes l.texts.items ≡ map string_bytes l.initial.texts.items ++ map (λ key. key.name.now) (take l.key-index l.keys)
