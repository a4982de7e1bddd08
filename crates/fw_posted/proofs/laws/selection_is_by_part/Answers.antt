use Rattle.fw_posted.proofs.MarkFacts.{selected-append, selected_all, selected_none}
use Rattle.fw_posted.proofs.laws.selection_is_by_part.Goals as goal

pub returns-clause-parts : goal.returns-clause-parts
returns-clause-parts c = selected-append

pub returns-clause-all : goal.returns-clause-all
returns-clause-all c = selected_all

pub returns-clause-none : goal.returns-clause-none
returns-clause-none c = selected_none
