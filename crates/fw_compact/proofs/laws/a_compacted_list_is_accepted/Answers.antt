use Rattle.fw_compact.proofs.AcceptedFacts.{compacted_legal, compacted_each}
use Rattle.fw_compact.proofs.laws.a_compacted_list_is_accepted.Goals as goal

pub returns-clause-legal : goal.returns-clause-legal
returns-clause-legal c = compacted_legal

pub returns-clause-each : goal.returns-clause-each
returns-clause-each c = compacted_each
