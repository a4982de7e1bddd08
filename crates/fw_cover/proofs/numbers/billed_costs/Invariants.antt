use Rattle.std.proofs.Common.{◌≡◌, ◌≤◌, ◌^◌, All, map, take}
use Rattle.fw_cover.specs.Hour.{billed_of}
use Rattle.fw_cover.proofs.numbers.billed_costs.Given as goal

abbrev pub invariant-loop-row : goal.invariant-loop-row
invariant-loop-row l = record { values : l.costs.items ≡ billed_of (map (λ r. r.now) (take l.row-index l.rows)); most : All (λ b. b ≤ 10 ^ 17) l.costs.items }
