use Rattle.std.proofs.Common.{◌≡◌, map, take}
use Rattle.std.specs.List.{enumerate_from, flat_map}
use Rattle.fw_cover.specs.Hour.{left_of}
use Rattle.fw_allocated.specs.LineRows.{rest_row}
use Rattle.fw_allocated.proofs.sources.rest_rows.Given as goal

abbrev pub invariant-loop-place : goal.invariant-loop-place
invariant-loop-place l =
    map (λ r. r.now) l.rest.items
    ≡ flat_map (λ r. rest_row r.1 (left_of (map (λ r. r.now) l.rows) l.cover.taken.items r.0)) (take l.place (enumerate_from 0 (map (λ r. r.now) l.rows)))
