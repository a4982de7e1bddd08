use Rattle.std.proofs.Common.{◌≡◌, map, take}
use Rattle.fw_cover.proofs.lending.references.Given as goal

abbrev pub invariant-loop-row : goal.invariant-loop-row
invariant-loop-row l = map (λ r. r.now) l.references.items ≡ take l.row-index l.rows
