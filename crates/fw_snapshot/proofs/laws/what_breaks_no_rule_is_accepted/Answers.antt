use Rattle.fw_snapshot.proofs.RuleFacts.{post_accepted, commit_accepted, policy_accepted, withdrawal_accepted, added_accepted}
use Rattle.fw_snapshot.proofs.laws.what_breaks_no_rule_is_accepted.Goals as goal

pub returns-clause-post : goal.returns-clause-post
returns-clause-post c = post_accepted

pub returns-clause-commit : goal.returns-clause-commit
returns-clause-commit c = commit_accepted

pub returns-clause-policy : goal.returns-clause-policy
returns-clause-policy c = policy_accepted

pub returns-clause-withdrawal : goal.returns-clause-withdrawal
returns-clause-withdrawal c = withdrawal_accepted

pub returns-clause-purchase : goal.returns-clause-purchase
returns-clause-purchase c = added_accepted
