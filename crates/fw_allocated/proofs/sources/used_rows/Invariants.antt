use Rattle.std.proofs.Common.{◌≡◌, map, take}
use Rattle.std.specs.Prelude.{option_to_list, slice_get}
use Rattle.std.specs.List.{flat_map}
use Rattle.fw_allocated.proofs.sources.used_rows.Given as goal

abbrev pub invariant-loop-take : goal.invariant-loop-take
invariant-loop-take l = map (λ r. r.now) l.used.items ≡ flat_map (λ t. option_to_list (slice_get (map (λ r. r.now) l.rows) t.row)) (take l.take-index l.taken)
