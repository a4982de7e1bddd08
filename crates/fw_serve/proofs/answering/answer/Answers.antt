use Rattle.std.proofs.Common.{◌≡◌, refl, inl}
use Rattle.fw_serve.specs.Answers.{Answer}
use Rattle.fw_serve.proofs.MoveFacts.{Moves-as}
use Rattle.fw_serve.proofs.RunFacts.{checkpoint_leaves}
use Rattle.fw_serve.specs.ReplyText.{reply_text}
use Rattle.fw_serve.proofs.answering.answer.Goals as goal

pub returns-in-Entry-clause-answer : goal.returns-in-Entry-clause-answer
unfolding Answer
returns-in-Entry-clause-answer g c = rw c.in-Entry.is c.enter.ensures.entered

pub returns-in-Entry-clause-moves : goal.returns-in-Entry-clause-moves
returns-in-Entry-clause-moves g c = rw c.in-Entry.is c.enter.ensures.moves

pub returns-in-Checkpoint-clause-moves : goal.returns-in-Checkpoint-clause-moves
returns-in-Checkpoint-clause-moves g c = Moves-as _ _ _ _ _ _ c.checkpoint.ensures.moves (λ e none. absurd none)

pub returns-in-Checkpoint-clause-answer : goal.returns-in-Checkpoint-clause-answer
unfolding Answer
returns-in-Checkpoint-clause-answer g c = rw c.in-Checkpoint.is c.checkpoint.ensures.checkpoints

pub returns-in-Report-clause-answer : goal.returns-in-Report-clause-answer
unfolding Answer
returns-in-Report-clause-answer g c = rw (c.in-Report.is, c.settle.ensures) (rw (c.state.ensures, c.settle.ensures) at c.answer_report.ensures.answer, refl)

pub returns-in-Report-clause-moves : goal.returns-in-Report-clause-moves
returns-in-Report-clause-moves g c = inl c.settle.ensures

pub returns-in-Lines-clause-answer : goal.returns-in-Lines-clause-answer
unfolding Answer
returns-in-Lines-clause-answer g c = rw (c.in-Lines.is, c.settle-in-Lines.ensures) (rw (c.state-in-Lines.ensures, c.settle-in-Lines.ensures) at c.answer_lines.ensures, refl)

pub returns-in-Lines-clause-moves : goal.returns-in-Lines-clause-moves
returns-in-Lines-clause-moves g c = inl c.settle-in-Lines.ensures

pub returns-in-State-clause-answer : goal.returns-in-State-clause-answer
unfolding Answer
returns-in-State-clause-answer g c = rw c.in-State.is (rw c.state-in-State.ensures at c.answer_state.ensures, refl)

pub returns-in-State-clause-moves : goal.returns-in-State-clause-moves
returns-in-State-clause-moves g c = inl refl

pub returns-in-BadCommand-clause-answer : goal.returns-in-BadCommand-clause-answer
unfolding Answer reply_text
returns-in-BadCommand-clause-answer g c = rw c.in-BadCommand.is (refl, refl)

pub returns-in-BadCommand-clause-moves : goal.returns-in-BadCommand-clause-moves
returns-in-BadCommand-clause-moves g c = inl refl

pub returns-in-BadEnd-clause-answer : goal.returns-in-BadEnd-clause-answer
unfolding Answer reply_text
returns-in-BadEnd-clause-answer g c = rw c.in-BadEnd.is (refl, refl)

pub returns-in-BadEnd-clause-moves : goal.returns-in-BadEnd-clause-moves
returns-in-BadEnd-clause-moves g c = inl refl

pub returns-in-Entry-clause-kept : goal.returns-in-Entry-clause-kept
returns-in-Entry-clause-kept g c = c.clear.ensures.kept _ _

pub returns-in-Checkpoint-clause-kept : goal.returns-in-Checkpoint-clause-kept
returns-in-Checkpoint-clause-kept g c =
    let same : c.checkpoint.new.store.history ≡ c.args.store.now.history = (checkpoint_leaves _ _ _ c.checkpoint.ensures.checkpoints).1 in
    rw same c.requires.kept

pub answer_report-requires-clause-kept : goal.answer_report-requires-clause-kept
answer_report-requires-clause-kept g c κs lives = rw (c.state.ensures, c.settle.ensures) c.requires.kept

pub returns-in-Report-clause-kept : goal.returns-in-Report-clause-kept
returns-in-Report-clause-kept g c = rw c.state.ensures at c.answer_report.ensures.kept
