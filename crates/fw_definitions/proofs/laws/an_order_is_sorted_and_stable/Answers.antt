use Rattle.fw_definitions.proofs.OrderFacts.{commitments_one, commitments_ordered, pairs_one, pairs_ordered}
use Rattle.fw_definitions.proofs.laws.an_order_is_sorted_and_stable.Goals as goal

pub returns-clause-commitments : goal.returns-clause-commitments
returns-clause-commitments c = commitments_ordered

pub returns-clause-pairs : goal.returns-clause-pairs
returns-clause-pairs c = pairs_ordered

pub returns-clause-one_list : goal.returns-clause-one_list
returns-clause-one_list c = commitments_one

pub returns-clause-one_list_of_pairs : goal.returns-clause-one_list_of_pairs
returns-clause-one_list_of_pairs c = pairs_one
