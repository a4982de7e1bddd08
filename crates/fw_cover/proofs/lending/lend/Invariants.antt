use Rattle.std.proofs.Common.{◌≡◌, map, take}
use Rattle.fw_cover.proofs.lending.lend.Given as goal

abbrev pub invariant-loop-row : goal.invariant-loop-row
invariant-loop-row l = l.lent.items ≡ map (λ r. r.now) (take l.row-index l.rows)
