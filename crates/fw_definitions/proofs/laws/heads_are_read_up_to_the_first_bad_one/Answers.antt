use Rattle.fw_definitions.proofs.ReplayFacts.{all_read, bad_head}
use Rattle.fw_definitions.proofs.laws.heads_are_read_up_to_the_first_bad_one.Goals as goal

pub returns-clause-read : goal.returns-clause-read
returns-clause-read c = all_read

pub returns-clause-fault : goal.returns-clause-fault
returns-clause-fault c = bad_head
