use Rattle.fw_shares.proofs.Unique.{shares_same}
use Rattle.fw_shares.proofs.laws.counts_are_one.Goals as goal

pub returns : goal.returns
returns c = shares_same
