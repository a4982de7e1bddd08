use Rattle.fw_load.proofs.Grown.{goes_on_both, stops_after, ends, ends_in}
use Rattle.fw_load.proofs.flushing.Held.flush.Goals as goal

pub loop-preserved : goal.loop-preserved
loop-preserved g c = goes_on_both g.V.Volume.tells g.V.Volume.view c.args.self.now.flusher c.loop.self.flusher c.step.new.flusher c.loop.invariant c.in-Ok-Some.ensures.went_on

pub returns-in-Ok-None : goal.returns-in-Ok-None
returns-in-Ok-None g c = ends g.V.Volume.tells g.V.Volume.view c.args.self.now.flusher c.step.new.flusher
    (goes_on_both g.V.Volume.tells g.V.Volume.view c.args.self.now.flusher c.loop.self.flusher c.step.new.flusher c.loop.invariant c.in-Ok-None.ensures.went_on)

pub returns-in-Err : goal.returns-in-Err
returns-in-Err g c = ends_in g.V.Volume.tells g.V.Volume.view c.args.self.now.flusher c.step.new.flusher c.in-Err.fault
    (stops_after g.V.Volume.tells g.V.Volume.view c.args.self.now.flusher c.loop.self.flusher c.step.new.flusher c.loop.invariant c.in-Err.ensures.stopped)
