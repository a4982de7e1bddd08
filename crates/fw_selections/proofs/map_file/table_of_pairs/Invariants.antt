use Rattle.std.proofs.Common.{◌≡◌, ℕ, List, map, option_map, string_bytes, take}
use Rattle.std.specs.BTreeMap.{get_by_text}
use Rattle.fw_selections.specs.Maps.{last_beside}
use Rattle.fw_selections.proofs.map_file.table_of_pairs.Given as goal

-- the pairs so far are in the table
abbrev pub invariant-loop-old : goal.invariant-loop-old
invariant-loop-old l = (text : List ℕ) → option_map string_bytes (get_by_text l.values text) ≡ last_beside text (map (λ e. (e.0.now, e.1.now)) (take l.old-index l.pairs))
