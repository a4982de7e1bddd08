use Rattle.fw_amortise.proofs.Carrying.{carried_amount}
use Rattle.fw_amortise.proofs.laws.lines_carry_the_amount.Goals as goal

pub returns : goal.returns
returns c = carried_amount
