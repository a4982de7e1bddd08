use Rattle.fw_dump.proofs.Restored.{commands_sent, dump_served}
use Rattle.fw_dump.proofs.laws.a_dump_makes_the_same_warehouse.Goals as goal

pub returns-clause-sends : goal.returns-clause-sends
returns-clause-sends c = commands_sent

pub returns-clause-same : goal.returns-clause-same
returns-clause-same c = dump_served
