use Rattle.fw_finops.proofs.PricedFacts.{listed_one}
use Rattle.fw_finops.proofs.laws.listed_lines_are_one.Goals as goal

pub returns : goal.returns
returns c = listed_one
