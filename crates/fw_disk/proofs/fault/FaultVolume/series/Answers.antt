use Rattle.fw_disk.proofs.Series.{first_taken}
use Rattle.fw_disk.proofs.fault.FaultVolume.series.Goals as goal

pub returns-clause-schedule : goal.returns-clause-schedule
returns-clause-schedule g c = first_taken c.args.passes.items c.reverse.new.self c.pop.new.self c.pop.result c.reverse.ensures.items c.pop.ensures.items c.pop.ensures.cases
