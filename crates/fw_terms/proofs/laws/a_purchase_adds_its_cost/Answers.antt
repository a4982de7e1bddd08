use Rattle.fw_terms.proofs.Adding.{purchase_kept, cost_push}
use Rattle.fw_terms.proofs.laws.a_purchase_adds_its_cost.Goals as goal

pub returns-clause-limits : goal.returns-clause-limits
returns-clause-limits c = purchase_kept

pub returns-clause-cost : goal.returns-clause-cost
returns-clause-cost c = λ one p. cost_push one.purchases p
