use Rattle.fw_snapshot.proofs.LegalFacts.{in_turn}
use Rattle.fw_snapshot.proofs.laws.numbers_are_in_turn.Goals as goal

pub returns : goal.returns
returns c = in_turn
