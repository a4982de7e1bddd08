use Rattle.fw_finops.proofs.SavingFacts.{hours_save}
use Rattle.fw_finops.proofs.laws.savings_are_what_lines_cost_less.Goals as goal

pub returns : goal.returns
returns c = hours_save
