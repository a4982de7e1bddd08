use Rattle.fw_snapshot.proofs.AddingFacts.{commitments_keep}
use Rattle.fw_snapshot.proofs.laws.commitments_keep_their_limits.Goals as goal

pub returns : goal.returns
returns c = commitments_keep
