use Rattle.std.proofs.Common.{◌≡◌, ◌*◌, ◌%◌, map, take}
use Rattle.fw_shares.proofs.hamilton.remainders.Given as goal

abbrev pub invariant-loop-place : goal.invariant-loop-place
invariant-loop-place l = l.remainders.items ≡ map (λ w. l.total * w % l.whole) (take l.place l.weights)
