use Rattle.std.proofs.Common.{◌∙◌, Err, ap, inl, refl}
use Rattle.fw_serve.proofs.MoveFacts.{Moves-committed}
use Rattle.fw_serve.proofs.StoreFacts.{CommitFails, has_ok, works_ok, Submits-committed, Submits-failed, Moves-failed}
use Rattle.fw_serve.specs.Replies.{store_fault_line}
use Rattle.fw_serve.proofs.answering.submit.Given as given
use Rattle.fw_serve.proofs.answering.submit.Goals as goal
use Rattle.fw_serve.proofs.answering.submit.Goals.{In-Err}

pub returns-in-Ok-clause-submits : goal.returns-in-Ok-clause-submits
returns-in-Ok-clause-submits g c =
    let clauses = c.commit.ensures in
    let works = works_ok c.commit.result _ c.args.store.now.failed c.in-Ok.is clauses.failed in
    let done = rw c.in-Ok.is at clauses.done in
    inl (Submits-committed g.V.Volume.tells g.V.Volume.view c.args.store.now c.commit.new.self c.args.entry.now c.in-Ok.verdict _ done.0 works done.1
    (has_ok c.commit.result _ c.args.store.now.failed _ _ c.in-Ok.is works clauses.old_side)
    ((rw c.in-Ok.is at clauses.fits) refl) clauses.limit (rw c.state.ensures at c.verdict_reply.ensures))

pub returns-in-Ok-clause-moves : goal.returns-in-Ok-clause-moves
returns-in-Ok-clause-moves g c =
    let clauses = c.commit.ensures in
    let works = works_ok c.commit.result _ c.args.store.now.failed c.in-Ok.is clauses.failed in
    let done = rw c.in-Ok.is at clauses.done in
    Moves-committed g.V.Volume.tells g.V.Volume.view _ c.args.store.now c.commit.new.self _ works done.1 clauses.any_moment clauses.later

fails : (g : given.Over) (c : goal.In-Err g) → CommitFails g.V.Volume.view c.args.store.now c.commit.new.self c.args.entry.now (Err c.in-Err.fault)
fails g c = record {
  fails = c.in-Err.ensures.fails;
  failed = c.in-Err.ensures.failed;
  old_side = c.in-Err.ensures.old_side;
  accepted = c.in-Err.ensures.accepted;
  no_room = c.in-Err.ensures.too_large;
  limit = c.in-Err.ensures.limit;
}

pub returns-in-Err-clause-submits : goal.returns-in-Err-clause-submits
returns-in-Err-clause-submits g c =
    Submits-failed g.V.Volume.view c.args.store.now c.commit.new.self c.args.entry.now c.in-Err.fault _ (fails g (goal.at.returns-in-Err-clause-submits g c).In-Err) c.store_reply.ensures

pub returns-in-Err-clause-moves : goal.returns-in-Err-clause-moves
returns-in-Err-clause-moves g c =
    Moves-failed g.V.Volume.tells g.V.Volume.view _ c.args.store.now c.commit.new.self c.args.entry.now c.in-Err.fault (fails g (goal.at.returns-in-Err-clause-moves g c).In-Err)
    (λ device accepted has. (refl, record { says = c.store_reply.ensures ∙ ap store_fault_line device; accepted = accepted; of_form = has }))
    (g.met.V.Volume.counts_now c.commit.new.self.volume) c.in-Err.ensures.any_moment c.in-Err.ensures.later
