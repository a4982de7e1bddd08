use Rattle.fw_load.specs.Loads.{GoesOn}
use Rattle.fw_load.proofs.flushing.Held.flush.Given as goal

-- what was committed so far
abbrev pub invariant-loop : goal.invariant-loop
invariant-loop g l = GoesOn g.V.Volume.tells g.V.Volume.view l.fn.self.flusher l.self.flusher
