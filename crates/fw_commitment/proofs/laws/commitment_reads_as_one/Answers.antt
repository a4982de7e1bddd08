use Rattle.fw_commitment.proofs.OneReading.{text-one-reading}
use Rattle.fw_commitment.proofs.laws.commitment_reads_as_one.Goals as goal

pub returns : goal.returns
returns c = text-one-reading c.args.text.now
