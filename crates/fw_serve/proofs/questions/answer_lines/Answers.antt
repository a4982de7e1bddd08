use Rattle.fw_serve.specs.ReplyText.{reply_text}
use Rattle.fw_serve.proofs.AnswerFacts.{IsLinesText-of, LinesAnswer-text, LinesAnswer-none}
use Rattle.fw_serve.proofs.questions.answer_lines.Goals as goal

pub returns-in-Ok : goal.returns-in-Ok
unfolding reply_text
returns-in-Ok c =
    let clauses = c.lines_csv.ensures in
    LinesAnswer-text _ _ _ c.in-Ok.text (rw c.in-Ok.is at (IsLinesText-of c.args.snapshot.now c.args.from c.args.to c.lines_csv.result clauses.range clauses.text clauses.fault))

pub returns-in-Err : goal.returns-in-Err
returns-in-Err c =
    let clauses = c.lines_csv.ensures in
    rw c.query_reply.ensures (LinesAnswer-none _ _ _ _ (rw c.in-Err.is at (IsLinesText-of c.args.snapshot.now c.args.from c.args.to c.lines_csv.result clauses.range clauses.text clauses.fault)))
