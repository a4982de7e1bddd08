use Rattle.fw_finops.proofs.LawFacts.{costs_add_up}
use Rattle.fw_finops.proofs.laws.covered_and_uncovered_cost_what_the_rows_do.Goals as goal

pub returns : goal.returns
returns c = costs_add_up
