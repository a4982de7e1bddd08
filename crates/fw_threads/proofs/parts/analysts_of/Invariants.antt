use Rattle.std.proofs.Common.{◌≡◌, ◌≤◌, length, All}
use Rattle.std.specs.Vec.{vec_capacity}
use Rattle.fw_threads.proofs.parts.analysts_of.Given as goal

abbrev pub invariant-loop : goal.invariant-loop
invariant-loop g l = (length l.all.items ≡ l.counter) × (l.count ≤ vec_capacity l.all) × All (λ a. a ≡ l.mark.front) l.all.items
