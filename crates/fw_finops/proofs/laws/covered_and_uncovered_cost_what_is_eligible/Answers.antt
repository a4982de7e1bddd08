use Rattle.fw_finops.proofs.PartFacts.{parts_of_hours}
use Rattle.fw_finops.proofs.laws.covered_and_uncovered_cost_what_is_eligible.Goals as goal

pub returns : goal.returns
returns c = parts_of_hours
