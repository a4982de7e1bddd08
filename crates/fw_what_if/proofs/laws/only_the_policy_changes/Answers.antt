use Rattle.fw_what_if.proofs.UnderFacts.{has_commitments, has_policy, has_rows, keeps_policy}
use Rattle.fw_what_if.proofs.laws.only_the_policy_changes.Goals as goal

pub returns-clause-policy : goal.returns-clause-policy
returns-clause-policy c = has_policy

pub returns-clause-rows : goal.returns-clause-rows
returns-clause-rows c = has_rows

pub returns-clause-commitments : goal.returns-clause-commitments
returns-clause-commitments c = has_commitments

pub returns-clause-stored : goal.returns-clause-stored
returns-clause-stored c = keeps_policy
