use Rattle.fw_serve.proofs.FailedFacts.{checkpoints_closed, entries_closed, lost_by_answer, run_stays}
use Rattle.fw_serve.proofs.laws.a_store_that_failed_takes_nothing_more.Goals as goal

pub returns-clause-failed : goal.returns-clause-failed
returns-clause-failed c = lost_by_answer

pub returns-clause-stays : goal.returns-clause-stays
returns-clause-stays c = λ before after commands answers fails given. run_stays commands before after answers fails given

pub returns-clause-entries : goal.returns-clause-entries
returns-clause-entries c = entries_closed

pub returns-clause-checkpoints : goal.returns-clause-checkpoints
returns-clause-checkpoints c = checkpoints_closed
