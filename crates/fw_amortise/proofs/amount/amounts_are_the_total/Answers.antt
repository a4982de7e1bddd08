use Rattle.fw_amortise.proofs.Carried.{amounts_sum}
use Rattle.fw_amortise.proofs.amount.amounts_are_the_total.Goals as goal

pub returns : goal.returns
returns c = amounts_sum
