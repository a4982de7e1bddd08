use Rattle.fw_finops.proofs.PricedFacts.{listed_costs}
use Rattle.fw_finops.proofs.laws.listed_lines_cost_what_their_prices_do.Goals as goal

pub returns : goal.returns
returns c = listed_costs
