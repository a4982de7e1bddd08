use Rattle.fw_snapshot.proofs.RepeatFacts.{once_after}
use Rattle.fw_snapshot.proofs.laws.what_is_sent_often_stands_once.Goals as goal

pub returns : goal.returns
returns c = once_after
