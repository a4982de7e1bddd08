use Rattle.fw_commitment.proofs.AddedFacts.{added-one-reading}
use Rattle.fw_commitment.proofs.laws.purchase_reads_as_one.Goals as goal

pub returns : goal.returns
returns c = added-one-reading c.args.text.now
