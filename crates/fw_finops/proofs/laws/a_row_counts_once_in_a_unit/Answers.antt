use Rattle.fw_finops.proofs.OnceFacts.{cost_within, quantity_once}
use Rattle.fw_finops.proofs.laws.a_row_counts_once_in_a_unit.Goals as goal

pub returns-clause-quantity : goal.returns-clause-quantity
returns-clause-quantity c = quantity_once

pub returns-clause-cost : goal.returns-clause-cost
returns-clause-cost c = cost_within
