use Rattle.fw_snapshot.proofs.RepeatFacts.{numbers}
use Rattle.fw_snapshot.proofs.laws.no_number_is_missing.Goals as goal

pub returns : goal.returns
returns c = numbers
