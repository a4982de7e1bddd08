use Rattle.std.proofs.Common.{[], arith, subst}
use Rattle.std.proofs.lemmas.Result.{IfErr-weaker}
use Rattle.fw_recover.proofs.Committing.{each_stands}
use Rattle.fw_serve.proofs.RecoveryFacts.{left_behind}
use Rattle.fw_serve.specs.Recovery.{session_behind}
use Rattle.fw_serve.proofs.recovery.serve_and_reopen.Goals as goal

pub returns : goal.returns
returns g c = λ told.
    let begun = c.args.store in
    let ended = c.serve-served.new.store in
    let run = c.serve-served.ensures.one_run in
    let image = (g.V.Volume.view c.stop-volume.result).seen in
    let now =
    subst (λ v. (g.V.Volume.view v).may_leave image) c.close.ensures
    (c.stop-volume.ensures.image told) in
    let each =
    each_stands begun.form begun.generation begun.log begun.history (g.V.Volume.view begun.volume)
    (c.keeps.ensures.fresh told c.requires.works) in
    let was =
    left_behind g.V.Volume.tells g.V.Volume.view begun ended run.commands run.answers image
    c.requires.works each run.in_turn now in
    let promise =
    c.reopen.ensures.promise begun.history [] (session_behind begun run.commands run.answers ended
    image) told was in
    record {
      left = ended;
      image = image;
      run = run;
      kept = promise.0;
      otherwise = promise.1;
      cause = IfErr-weaker c.reopen.result _ _ (λ e rose is. omega (arith, rose is))
          c.reopen.ensures.device;
    }
