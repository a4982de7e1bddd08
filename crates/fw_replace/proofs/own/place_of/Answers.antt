use Rattle.std.proofs.Common.{subst, arith}
use Rattle.std.proofs.lemmas.List.{take_all}
use Rattle.fw_replace.specs.Own.{NoneNumbered}
use Rattle.fw_replace.proofs.OwnFacts.{none_more}
use Rattle.fw_replace.proofs.own.place_of.Goals as goal

pub loop-place-preserved : goal.loop-place-preserved
loop-place-preserved c =
    none_more c.args.rows.now c.args.number c.args.part.now c.args.posts.now c.loop-place.place _ c.loop-place-test.true
    (λ is. absurd (let found = c.is_numbered-in-loop-place.ensures.1 is in cc)) c.loop-place.invariant

pub returns : goal.returns
returns c =
    subst (NoneNumbered c.args.rows.now c.args.number c.args.part.now) (take_all c.loop-place.place c.args.posts.now (omega (arith, c.loop-place-test.false)))
    c.loop-place.invariant
