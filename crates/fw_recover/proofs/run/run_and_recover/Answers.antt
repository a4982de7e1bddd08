use Rattle.std.proofs.Common.{IsTrue, subst}
use Rattle.std.proofs.lemmas.Result.{IfOk-weaker}
use Rattle.fw_recover.proofs.Places.{stands_one}
use Rattle.fw_recover.proofs.Running.{stands_else_fault}
use Rattle.fw_recover.proofs.run.run_and_recover.Goals as goal

pub returns-clause-recovered : goal.returns-clause-recovered
returns-clause-recovered g c =
    let image = (g.V.Volume.view c.stop-volume.result).seen in
    IfOk-weaker c.open.result _ _ (λ s found told.
    let has = c.run_until_a_fault-verdicts.ensures.each told image (subst (λ v. (g.V.Volume.view v).may_leave image) c.close.ensures (c.stop-volume.ensures.image told)) in
    (has.first, has.all, has.one_more, stands_one image s.history _ (found.1 told) has.stands)) c.open.ensures.found

pub returns-clause-else_device_or_memory : goal.returns-clause-else_device_or_memory
returns-clause-else_device_or_memory g c =
    let image = (g.V.Volume.view c.stop-volume.result).seen in
    let has = λ (told : IsTrue g.V.Volume.tells). c.run_until_a_fault-verdicts.ensures.each told image (subst (λ v. (g.V.Volume.view v).may_leave image) c.close.ensures (c.stop-volume.ensures.image told)) in
    stands_else_fault g.V.Volume.tells image _ c.open.result (λ told. (has told).stands) c.open.ensures.which c.open.ensures.none c.open.ensures.corrupt
