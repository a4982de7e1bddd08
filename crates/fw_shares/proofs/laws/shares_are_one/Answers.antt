use Rattle.fw_shares.proofs.Unique.{signed_shares_same}
use Rattle.fw_shares.proofs.laws.shares_are_one.Goals as goal

pub returns : goal.returns
returns c = signed_shares_same
