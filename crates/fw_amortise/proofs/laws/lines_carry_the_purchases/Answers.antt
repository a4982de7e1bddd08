use Rattle.fw_amortise.proofs.Carrying.{carried_purchases}
use Rattle.fw_amortise.proofs.laws.lines_carry_the_purchases.Goals as goal

pub returns : goal.returns
returns c = carried_purchases
