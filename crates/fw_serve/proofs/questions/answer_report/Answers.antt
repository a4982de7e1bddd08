use Rattle.fw_serve.specs.ReplyText.{reply_text}
use Rattle.fw_serve.proofs.AnswerFacts.{ReportAnswer-text, ReportAnswer-none}
use Rattle.fw_serve.proofs.questions.answer_report.Goals as goal

pub returns-in-Ok-clause-answer : goal.returns-in-Ok-clause-answer
unfolding reply_text
returns-in-Ok-clause-answer g c = ReportAnswer-text _ _ _ _ c.in-Ok.text c.in-Ok.ensures.text

pub returns-in-Err-clause-answer : goal.returns-in-Err-clause-answer
returns-in-Err-clause-answer g c = rw c.query_reply.ensures (ReportAnswer-none _ _ _ _ _ c.in-Err.ensures.text)
