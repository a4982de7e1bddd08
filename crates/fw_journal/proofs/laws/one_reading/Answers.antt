use Rattle.fw_journal.proofs.Spelling.{tells_one, breaks_once, tells_or_breaks}
use Rattle.fw_journal.proofs.laws.one_reading.Goals as goal

pub returns-clause-one_list : goal.returns-clause-one_list
returns-clause-one_list c = tells_one

pub returns-clause-one_place : goal.returns-clause-one_place
returns-clause-one_place c = breaks_once

pub returns-clause-not_both : goal.returns-clause-not_both
returns-clause-not_both c = tells_or_breaks
