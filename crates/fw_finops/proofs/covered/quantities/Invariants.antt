use Rattle.std.proofs.Common.{◌≡◌, map, take}
use Rattle.fw_cover.specs.Hour.{quantities_of}
use Rattle.fw_finops.proofs.covered.quantities.Given as goal

abbrev pub invariant-loop-row : goal.invariant-loop-row
invariant-loop-row l = l.quantities.items ≡ quantities_of (map (λ r. r.now) (take l.row-index l.rows))
