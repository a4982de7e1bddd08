use Rattle.std.proofs.Common.{◌≡◌, ◌+◌, ◌++◌, take, drop, vec_len, vec_capacity}
use Rattle.fw_threads.proofs.waiting.move_front.Given as goal

abbrev pub invariant-loop : goal.invariant-loop
invariant-loop g l =
    record {
      moved : l.to.items ≡ l.initial.to.items ++ take l.counter l.initial.from.items;
      rest : l.from.items ≡ drop l.counter l.initial.from.items;
      room : (vec_len l.to ≡ vec_len l.initial.to + l.counter) × (vec_capacity l.to ≡ vec_capacity l.initial.to);
    }
