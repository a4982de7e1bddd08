use Rattle.fw_snapshot.proofs.RepeatFacts.{again_verdicts, again_nothing, are_repeats, again_accepted, again_all}
use Rattle.fw_snapshot.proofs.laws.sending_again_changes_nothing.Goals as goal

pub returns-clause-verdicts : goal.returns-clause-verdicts
returns-clause-verdicts c = again_verdicts

pub returns-clause-nothing : goal.returns-clause-nothing
returns-clause-nothing c = again_nothing

pub returns-clause-repeats : goal.returns-clause-repeats
returns-clause-repeats c = are_repeats

pub returns-clause-accepted : goal.returns-clause-accepted
returns-clause-accepted c = again_accepted

pub returns-clause-all : goal.returns-clause-all
returns-clause-all c = again_all
