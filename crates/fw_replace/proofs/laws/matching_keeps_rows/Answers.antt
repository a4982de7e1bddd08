use Rattle.fw_replace.proofs.MatchFacts.{none_left, one_each, rows_kept, staying}
use Rattle.fw_replace.proofs.laws.matching_keeps_rows.Goals as goal

pub returns-clause-one_each : goal.returns-clause-one_each
returns-clause-one_each c = one_each

pub returns-clause-stay : goal.returns-clause-stay
returns-clause-stay c = staying

pub returns-clause-others : goal.returns-clause-others
returns-clause-others c = none_left

pub returns-clause-rows : goal.returns-clause-rows
returns-clause-rows c = rows_kept
