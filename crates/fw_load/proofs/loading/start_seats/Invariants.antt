use Rattle.std.specs.Prelude.{⊤}
use Rattle.fw_load.proofs.loading.start_seats.Given as goal

abbrev pub invariant-loop : goal.invariant-loop
invariant-loop g l = ⊤
