use Rattle.fw_load.proofs.Grown.{failed}
use Rattle.fw_load.proofs.flushing.commit.Goals as goal

pub returns-in-Err-clause-stopped : goal.returns-in-Err-clause-stopped
returns-in-Err-clause-stopped g c = failed g.V.Volume.tells g.V.Volume.view c.args.flusher.now c.in-Err.fault c.commit.new.self c.in-Err.ensures.failed
