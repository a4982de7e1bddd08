use Rattle.std.proofs.Common.{refl, inl}
use Rattle.fw_serve.proofs.AnswerFacts.{Takes-submitted, Takes-refused, made_of_parts}
use Rattle.fw_serve.proofs.MoveFacts.{Moves-as}
use Rattle.fw_serve.proofs.answering.take.Goals as goal

pub returns-in-Ok-clause-takes : goal.returns-in-Ok-clause-takes
returns-in-Ok-clause-takes g c = rw c.in-Ok.ensures.entry at (Takes-submitted _ c.in-Ok.entry _ _ c.submit.ensures.valid c.submit.ensures.submits)

-- the entry that was submitted is the one that was made
pub returns-in-Ok-clause-moves : goal.returns-in-Ok-clause-moves
returns-in-Ok-clause-moves g c =
    Moves-as _ _ _ _ _ _ c.submit.ensures.moves (λ e flies. (made_of_parts _ _ _ _ e c.in-Ok.ensures.entry c.submit.ensures.valid flies.0, flies.1))

pub returns-in-Err-clause-takes : goal.returns-in-Err-clause-takes
returns-in-Err-clause-takes g c = rw c.entry_reply.ensures (Takes-refused _ _ _ _ c.in-Err.fault c.in-Err.ensures.fault)

pub returns-in-Err-clause-moves : goal.returns-in-Err-clause-moves
returns-in-Err-clause-moves g c = inl refl
