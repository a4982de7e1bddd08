use Rattle.std.proofs.Common.{◌≡◌, ◌≤◌, ◌^◌, All, map, take}
use Rattle.fw_cover.specs.Hour.{quantities_of}
use Rattle.fw_cover.proofs.numbers.quantities.Given as goal

abbrev pub invariant-loop-row : goal.invariant-loop-row
invariant-loop-row l = record { values : l.quantities.items ≡ quantities_of (map (λ r. r.now) (take l.row-index l.rows)); most : All (λ q. q ≤ 10 ^ 17) l.quantities.items }
