use Rattle.fw_finops.proofs.PricedFacts.{amounts_one}
use Rattle.fw_finops.proofs.laws.lines_at_amounts_are_one.Goals as goal

pub returns : goal.returns
returns c = amounts_one
