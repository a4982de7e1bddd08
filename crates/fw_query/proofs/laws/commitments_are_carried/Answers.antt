use Rattle.fw_query.proofs.BoughtFacts.{bought_between}
use Rattle.fw_query.proofs.CarriedFacts.{carried_between, carried_term, purchases_cost_nothing, shares_bill_nothing}
use Rattle.fw_query.proofs.laws.commitments_are_carried.Goals as goal

pub returns : goal.returns
returns c = record { hours = carried_between; term = carried_term; purchases = purchases_cost_nothing; bought = bought_between; unbilled = shares_bill_nothing }
