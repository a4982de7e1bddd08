use Rattle.fw_snapshot.proofs.SenderFacts.{answered, front, whole}
use Rattle.fw_snapshot.proofs.laws.a_sender_is_kept_in_its_order.Goals as goal

pub returns-clause-front : goal.returns-clause-front
returns-clause-front c = front

pub returns-clause-answered : goal.returns-clause-answered
returns-clause-answered c = answered

pub returns-clause-all : goal.returns-clause-all
returns-clause-all c = whole
