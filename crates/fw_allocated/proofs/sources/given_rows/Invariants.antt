use Rattle.std.proofs.Common.{◌≡◌, map, filter, take, not}
use Rattle.fw_cover.specs.Eligible.{is_eligible}
use Rattle.fw_allocated.proofs.sources.given_rows.Given as goal

abbrev pub invariant-loop-row : goal.invariant-loop-row
invariant-loop-row l = map (λ r. r.now) l.given.items ≡ filter (λ row. not (is_eligible row)) (map (λ r. r.now) (take l.row-index l.rows))
