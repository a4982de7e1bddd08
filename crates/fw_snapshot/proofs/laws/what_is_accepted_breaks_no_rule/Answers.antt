use Rattle.fw_snapshot.proofs.LegalFacts.{accepted_number}
use Rattle.fw_snapshot.proofs.RuleFacts.{accepted_post, accepted_commit, accepted_withdrawal, accepted_added}
use Rattle.fw_snapshot.proofs.laws.what_is_accepted_breaks_no_rule.Goals as goal

pub returns-clause-next : goal.returns-clause-next
returns-clause-next c = accepted_number

pub returns-clause-post : goal.returns-clause-post
returns-clause-post c = accepted_post

pub returns-clause-commit : goal.returns-clause-commit
returns-clause-commit c = accepted_commit

pub returns-clause-withdrawal : goal.returns-clause-withdrawal
returns-clause-withdrawal c = accepted_withdrawal

pub returns-clause-purchase : goal.returns-clause-purchase
returns-clause-purchase c = accepted_added
