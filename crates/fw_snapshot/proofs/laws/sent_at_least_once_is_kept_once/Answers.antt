use Rattle.fw_snapshot.proofs.RepeatFacts.{kept_once, is_sending}
use Rattle.fw_snapshot.proofs.laws.sent_at_least_once_is_kept_once.Goals as goal

pub returns-clause-kept : goal.returns-clause-kept
returns-clause-kept c = kept_once

pub returns-clause-only : goal.returns-clause-only
returns-clause-only c = is_sending
