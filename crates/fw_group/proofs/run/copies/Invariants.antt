use Rattle.std.proofs.Common.{◌≡◌, ◌≤◌, length, All, vec_len, vec_capacity}
use Rattle.fw_group.proofs.run.copies.Given as goal

abbrev pub invariant-loop : goal.invariant-loop
invariant-loop l = (length l.copies.items ≡ l.counter) × (l.count ≤ vec_capacity l.copies) × All (λ copy. copy ≡ l.snapshot) l.copies.items
