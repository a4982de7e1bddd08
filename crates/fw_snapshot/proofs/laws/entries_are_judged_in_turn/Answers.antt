use Rattle.fw_snapshot.proofs.VerdictFacts.{as_many, each_verdict, chosen_accepted, accepted_legal, verdicts_in_parts, accepted_in_parts, accepted_shorter}
use Rattle.fw_snapshot.proofs.laws.entries_are_judged_in_turn.Goals as goal

pub returns-clause-count : goal.returns-clause-count
returns-clause-count c = as_many

pub returns-clause-each : goal.returns-clause-each
returns-clause-each c = each_verdict

pub returns-clause-chosen : goal.returns-clause-chosen
returns-clause-chosen c = chosen_accepted

pub returns-clause-legal : goal.returns-clause-legal
returns-clause-legal c = accepted_legal

pub returns-clause-verdicts_in_parts : goal.returns-clause-verdicts_in_parts
returns-clause-verdicts_in_parts c = verdicts_in_parts

pub returns-clause-accepted_in_parts : goal.returns-clause-accepted_in_parts
returns-clause-accepted_in_parts c = accepted_in_parts

pub returns-clause-no_longer : goal.returns-clause-no_longer
returns-clause-no_longer c = accepted_shorter
