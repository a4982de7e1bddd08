use Rattle.std.proofs.Common.{◌≡◌, length}
use Rattle.fw_threads.proofs.shared.Shared.new.Given as goal

abbrev pub invariant-loop : goal.invariant-loop
invariant-loop g l = length l.slots.items ≡ l.counter
