use Rattle.fw_snapshot.proofs.RepeatFacts.{repeat_judged, already_repeat}
use Rattle.fw_snapshot.proofs.laws.a_repeat_is_answered_already.Goals as goal

pub returns-clause-repeat : goal.returns-clause-repeat
returns-clause-repeat c = repeat_judged

pub returns-clause-only : goal.returns-clause-only
returns-clause-only c = already_repeat
