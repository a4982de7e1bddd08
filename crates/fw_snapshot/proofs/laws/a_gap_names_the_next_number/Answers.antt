use Rattle.fw_snapshot.proofs.RuleFacts.{gap_judged, gap_only}
use Rattle.fw_snapshot.proofs.laws.a_gap_names_the_next_number.Goals as goal

pub returns-clause-gap : goal.returns-clause-gap
returns-clause-gap c = gap_judged

pub returns-clause-only : goal.returns-clause-only
returns-clause-only c = gap_only
