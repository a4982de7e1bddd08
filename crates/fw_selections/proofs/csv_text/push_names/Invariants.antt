use Rattle.std.proofs.Common.{◌≡◌, ◌++◌, map, take}
use Rattle.fw_selections.proofs.csv_text.push_names.Given as goal

-- the names so far
abbrev pub invariant-loop-key : goal.invariant-loop-key
invariant-loop-key l = map (λ n. n.now) l.names.items ≡ map (λ n. n.now) l.initial.names.items ++ map (λ key. key.name.now) (take l.key-index l.keys)
