use Rattle.fw_allocate.proofs.Balance.{charges_total}
use Rattle.fw_allocate.proofs.laws.charges_keep_the_total.Goals as goal

pub returns : goal.returns
returns c = charges_total
