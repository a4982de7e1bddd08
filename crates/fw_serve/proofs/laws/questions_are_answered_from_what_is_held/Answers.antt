use Rattle.fw_serve.proofs.QuestionFacts.{lines_answered, report_answered, state_answered}
use Rattle.fw_serve.proofs.laws.questions_are_answered_from_what_is_held.Goals as goal

pub returns-clause-report : goal.returns-clause-report
returns-clause-report c = report_answered

pub returns-clause-lines : goal.returns-clause-lines
returns-clause-lines c = lines_answered

pub returns-clause-state : goal.returns-clause-state
returns-clause-state c = state_answered
