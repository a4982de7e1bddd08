use Rattle.fw_amortise.proofs.Beside.{far_beside, one_beside}
use Rattle.fw_amortise.proofs.laws.no_rest_stands_beside_unused_capacity.Goals as goal

pub returns : goal.returns
returns c = record { quantity = one_beside; cost = far_beside }
