use Rattle.fw_amortise.proofs.Purchases.{purchases_nothing}
use Rattle.fw_amortise.proofs.laws.purchases_cost_nothing.Goals as goal

pub returns : goal.returns
returns c = purchases_nothing
