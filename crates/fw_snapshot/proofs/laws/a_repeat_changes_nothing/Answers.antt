use Rattle.fw_snapshot.proofs.RepeatFacts.{repeat_others, refused_others, repeat_verdicts, repeat_nothing, refused_nothing}
use Rattle.fw_snapshot.proofs.laws.a_repeat_changes_nothing.Goals as goal

pub returns-clause-others : goal.returns-clause-others
returns-clause-others c = repeat_others

pub returns-clause-others_refused : goal.returns-clause-others_refused
returns-clause-others_refused c = refused_others

pub returns-clause-verdicts : goal.returns-clause-verdicts
returns-clause-verdicts c = repeat_verdicts

pub returns-clause-accepted : goal.returns-clause-accepted
returns-clause-accepted c = repeat_nothing

pub returns-clause-refused : goal.returns-clause-refused
returns-clause-refused c = refused_nothing
