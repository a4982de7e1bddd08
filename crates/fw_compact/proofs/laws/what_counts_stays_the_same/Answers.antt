use Rattle.fw_compact.proofs.KeptFacts.{rows_stay, commitments_stay, policy_stays}
use Rattle.fw_compact.proofs.laws.what_counts_stays_the_same.Goals as goal

pub returns-clause-rows : goal.returns-clause-rows
returns-clause-rows c = rows_stay

pub returns-clause-commitments : goal.returns-clause-commitments
returns-clause-commitments c = commitments_stay

pub returns-clause-policy : goal.returns-clause-policy
returns-clause-policy c = policy_stays
