use Rattle.std.proofs.Common.{Err, refl}
use Rattle.fw_serve.specs.ReplyText.{reply_text}
use Rattle.fw_serve.proofs.MoveFacts.{not_both, Moves-checkpoint}
use Rattle.fw_serve.proofs.StoreFacts.{CheckpointFails, further_ok, works_ok, Checkpoints-done, Checkpoints-failed, Moves-unmade}
use Rattle.fw_serve.proofs.answering.checkpoint.Given as given
use Rattle.fw_serve.proofs.answering.checkpoint.Goals as goal
use Rattle.fw_serve.proofs.answering.checkpoint.Goals.{In-Err}

pub returns-in-Ok-clause-checkpoints : goal.returns-in-Ok-clause-checkpoints
unfolding reply_text
returns-in-Ok-clause-checkpoints g c =
    let clauses = c.checkpoint.ensures in
    let works = works_ok c.checkpoint.result _ c.args.store.now.failed c.in-Ok.is clauses.failed in
    let done = rw c.in-Ok.is at clauses.done in
    Checkpoints-done g.V.Volume.tells g.V.Volume.view c.args.store.now c.checkpoint.new.self _ works
    (further_ok c.checkpoint.result _ c.args.store.now.failed c.args.store.now.generation c.in-Ok.is works clauses.generations) done clauses.same clauses.limit refl

pub returns-in-Ok-clause-moves : goal.returns-in-Ok-clause-moves
returns-in-Ok-clause-moves g c =
    let clauses = c.checkpoint.ensures in
    let works = works_ok c.checkpoint.result _ c.args.store.now.failed c.in-Ok.is clauses.failed in
    let done = rw c.in-Ok.is at clauses.done in
    Moves-checkpoint g.V.Volume.tells g.V.Volume.view _ c.args.store.now c.checkpoint.new.self works clauses.same (g.met.V.Volume.counts_now c.checkpoint.new.self.volume) clauses.any_moment (λ fails. absurd (not_both _ fails done.failed)) clauses.later

fails : (g : given.Over) (c : goal.In-Err g) → CheckpointFails g.V.Volume.view c.args.store.now c.checkpoint.new.self (Err c.in-Err.fault)
fails g c = record {
  failed = c.in-Err.ensures.failed;
  generations = c.in-Err.ensures.generations;
  unchanged = c.in-Err.ensures.unchanged;
  device = λ is. (c.in-Err.ensures.device is).0;
  no_room = c.in-Err.ensures.too_large;
  rose = λ is. (c.in-Err.ensures.device is).1;
  limit = c.in-Err.ensures.limit;
  not_no_house = c.in-Err.ensures.not_no_house;
  not_corrupt = c.in-Err.ensures.not_corrupt;
  not_exists = c.in-Err.ensures.not_exists;
  not_old_side = c.in-Err.ensures.not_old_side;
}

pub returns-in-Err-clause-checkpoints : goal.returns-in-Err-clause-checkpoints
returns-in-Err-clause-checkpoints g c =
    Checkpoints-failed g.V.Volume.view c.args.store.now c.checkpoint.new.self c.in-Err.fault _ (fails g (goal.at.returns-in-Err-clause-checkpoints g c).In-Err) c.store_reply.ensures

pub returns-in-Err-clause-moves : goal.returns-in-Err-clause-moves
returns-in-Err-clause-moves g c =
    Moves-unmade g.V.Volume.tells g.V.Volume.view _ c.args.store.now c.checkpoint.new.self c.in-Err.fault (fails g (goal.at.returns-in-Err-clause-moves g c).In-Err)
    (g.met.V.Volume.counts_now c.checkpoint.new.self.volume) c.in-Err.ensures.any_moment c.in-Err.ensures.same c.in-Err.ensures.later
