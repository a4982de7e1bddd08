use Rattle.fw_past.proofs.PastFacts.{past_stays, past_now, past_then, past_legal}
use Rattle.fw_past.proofs.laws.the_past_stays.Goals as goal

pub returns-clause-stays : goal.returns-clause-stays
returns-clause-stays c = past_stays

pub returns-clause-now : goal.returns-clause-now
returns-clause-now c = past_now

pub returns-clause-then : goal.returns-clause-then
returns-clause-then c = past_then

pub returns-clause-legal : goal.returns-clause-legal
returns-clause-legal c = past_legal
