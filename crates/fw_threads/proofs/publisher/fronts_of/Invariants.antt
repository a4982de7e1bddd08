use Rattle.std.proofs.Common.{◌≡◌, ◌+◌, ◌≤◌, length, All}
use Rattle.std.specs.Vec.{vec_capacity}
use Rattle.fw_threads.proofs.publisher.fronts_of.Given as goal

abbrev pub invariant-loop : goal.invariant-loop
invariant-loop g l =
    record {
      left : length l.copies.items + l.counter ≡ length l.initial.copies.items;
      made : length l.fronts.items ≡ l.counter;
      room : length l.initial.copies.items ≤ vec_capacity l.fronts;
      copies : All (λ s. s ≡ l.mark.front) l.copies.items;
      fronts : All (λ f. f ≡ l.mark.front) l.fronts.items;
    }
