use Rattle.std.proofs.lemmas.Result.{err_from_is_err_and}
use Rattle.fw_recover.proofs.Committing.{each_stands}
use Rattle.fw_serve.proofs.FlightFacts.{IsOneRun-none, IsOneRun-of}
use Rattle.fw_serve.proofs.MoveFacts.{failed_stays, moved_cause}
use Rattle.fw_serve.proofs.server.serve.Goals as goal

pub returns-in_err-text-clause-one_run : goal.returns-in_err-text-clause-one_run
returns-in_err-text-clause-one_run g c =
    let p = err_from_is_err_and c.from_residual.result c.from_residual.ensures.1 in
    rw (p.1) (IsOneRun-none g.V.Volume.tells g.V.Volume.view _ _ c.args.store.now _ c.keeps.ensures (g.met.V.Volume.only_now c.args.store.now.volume))

pub returns-clause-one_run : goal.returns-clause-one_run
returns-clause-one_run g c = IsOneRun-of g.V.Volume.tells g.V.Volume.view _ _ _ c.args.store.now c.answer_all-served.new.store _ _ (c.in_ok-text.ensures.whole, c.in_ok-text.ensures.short) c.keeps.ensures
    (g.met.V.Volume.only_now c.args.store.now.volume) c.answer_all-served.ensures.runs

-- what each store keeps says what each image has
pub returns-in_err-text-clause-each : goal.returns-in_err-text-clause-each
returns-in_err-text-clause-each g c = λ told works. each_stands _ _ _ _ _ (c.keeps.ensures.fresh told works)

pub returns-in_err-text-clause-each_once_failed : goal.returns-in_err-text-clause-each_once_failed
returns-in_err-text-clause-each_once_failed g c = c.keeps.ensures.lost

pub returns-clause-each : goal.returns-clause-each
returns-clause-each g c = λ told works. each_stands _ _ _ _ _ (c.keeps-2.ensures.fresh told works)

pub returns-clause-each_once_failed : goal.returns-clause-each_once_failed
returns-clause-each_once_failed g c = c.keeps-2.ensures.lost

pub returns-clause-once_failed : goal.returns-clause-once_failed
returns-clause-once_failed g c = failed_stays g.V.Volume.tells g.V.Volume.view _ c.args.store.now c.answer_all-served.new.store c.answer_all-served.ensures.runs.runs.moves

pub returns-clause-cause : goal.returns-clause-cause
returns-clause-cause g c = moved_cause g.V.Volume.tells g.V.Volume.view _ c.args.store.now c.answer_all-served.new.store c.answer_all-served.ensures.runs.runs.moves
