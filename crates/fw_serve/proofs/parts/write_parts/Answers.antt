use Rattle.std.proofs.Common.{subst, sym}
use Rattle.std.proofs.KnownBytes.{Appends-trans}
use Rattle.std.proofs.lemmas.Result.{err_from_is_err_and}
use Rattle.fw_serve.specs.Writing.{WritesPart}
use Rattle.std.specs.Io.KnownBytes.{Appends}
use Rattle.fw_serve.proofs.WritingFacts.{WritesPart-after, WritesPart-before, concat-more, concat-split}
use Rattle.fw_serve.proofs.parts.write_parts.Goals as goal

pub returns-in_err-write_part-clause-part : goal.returns-in_err-write_part-clause-part
returns-in_err-write_part-clause-part g c =
    let p = err_from_is_err_and c.from_residual.result c.from_residual.ensures.1 in
    let why = c.in_err-write_part.ensures.part in
    rw (p.1, p.2) (
      why.0,
      subst (WritesPart _ _) (sym (concat-split (λ part. part.now) c.args.parts.now c.loop-part.part-index _ c.loop-part-test.true))
          (WritesPart-before _ _ _ _ (WritesPart-after _ _ _ _ _ c.loop-part.invariant why.1)),
    )

pub loop-part-preserved : goal.loop-part-preserved
loop-part-preserved g c =
    subst (Appends _ _) (sym (concat-more (λ part. part.now) c.args.parts.now c.loop-part.part-index _ c.loop-part-test.true))
    (Appends-trans _ _ _ _ _ c.loop-part.invariant c.in_ok-write_part.ensures.whole)
