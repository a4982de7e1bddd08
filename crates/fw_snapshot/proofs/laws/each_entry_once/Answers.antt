use Rattle.fw_snapshot.proofs.LegalFacts.{once}
use Rattle.fw_snapshot.proofs.laws.each_entry_once.Goals as goal

pub returns : goal.returns
returns c = once
