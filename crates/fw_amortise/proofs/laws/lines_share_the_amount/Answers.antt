use Rattle.fw_amortise.proofs.Split.{lines_shared, weights_are_the_capacity}
use Rattle.fw_amortise.proofs.laws.lines_share_the_amount.Goals as goal

pub returns : goal.returns
returns c = record { lines = lines_shared; weights = weights_are_the_capacity }
