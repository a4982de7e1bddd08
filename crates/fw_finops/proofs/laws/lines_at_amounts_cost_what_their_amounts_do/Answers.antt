use Rattle.fw_finops.proofs.PricedFacts.{amounts_cost}
use Rattle.fw_finops.proofs.laws.lines_at_amounts_cost_what_their_amounts_do.Goals as goal

pub returns : goal.returns
returns c = amounts_cost
