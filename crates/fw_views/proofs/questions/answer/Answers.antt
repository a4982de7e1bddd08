use Rattle.fw_views.proofs.questions.answer.Goals as goal

pub returns-in_default : goal.returns-in_default
returns-in_default g c = rw c.state.ensures at c.answer_of.ensures
