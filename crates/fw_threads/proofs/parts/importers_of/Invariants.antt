use Rattle.std.proofs.Common.{◌≡◌, length, All}
use Rattle.fw_threads.proofs.parts.importers_of.Given as goal

abbrev pub invariant-loop-number : goal.invariant-loop-number
invariant-loop-number g l = (length l.all.items ≡ l.number) × All (λ i. i ≡ l.mark.front) l.all.items
