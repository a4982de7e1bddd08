use Rattle.std.proofs.Common.{refl, inl, Ok}
use Rattle.fw_entry.specs.View.{command_view}
use Rattle.fw_serve.proofs.AnswerFacts.{Entered-refused, reads_number}
use Rattle.fw_serve.proofs.MoveFacts.{Moves-as}
use Rattle.fw_serve.proofs.RunFacts.{sends_made}
use Rattle.fw_serve.proofs.answering.enter.Goals as goal

pub returns-in-Ok-clause-entered : goal.returns-in-Ok-clause-entered
returns-in-Ok-clause-entered g c = record {
  reading = Ok (command_view c.in-Ok.command);
  reads = rw (c.currency.ensures, c.state-2.ensures, c.state.ensures) at c.in-Ok.ensures.reads;
  number = c.unwrap_or-number.result;
  numbers = rw c.unwrap_or-number.ensures (reads_number _ c.sequence_number.result c.sequence_number.ensures);
  taken = c.take.ensures.takes;
}

-- the entry that was made is the one that the command sends
pub returns-in-Ok-clause-moves : goal.returns-in-Ok-clause-moves
returns-in-Ok-clause-moves g c =
    Moves-as _ _ _ _ _ _ c.take.ensures.moves (λ e flies. (
      sends_made _ _ _ _ _ c.unwrap_or-number.result (command_view c.in-Ok.command) e (rw (c.currency.ensures, c.state-2.ensures, c.state.ensures) at c.in-Ok.ensures.reads)
          (rw c.unwrap_or-number.ensures (reads_number _ c.sequence_number.result c.sequence_number.ensures)) flies.0,
      flies.1,
    ))

pub returns-in-Err-clause-entered : goal.returns-in-Err-clause-entered
returns-in-Err-clause-entered g c =
    Entered-refused _ _ _ _ _ c.unwrap_or-number.result _
    (rw c.unwrap_or-number.ensures (reads_number _ c.sequence_number.result c.sequence_number.ensures))
    (rw (c.currency.ensures, c.state-2.ensures, c.state.ensures) at c.in-Err.ensures.reads)

pub returns-in-Err-clause-moves : goal.returns-in-Err-clause-moves
returns-in-Err-clause-moves g c = inl refl
