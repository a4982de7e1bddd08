use Rattle.std.proofs.Common.{◌∙◌, ◌++◌, ◌∷◌, [], ap, sym}
use Rattle.std.specs.Prelude.{slice_get}
use Rattle.fw_sums.proofs.HourFacts.{lent-more}
use Rattle.fw_sums.proofs.segments.rows_lent.Goals as goal

pub loop-at-preserved : goal.loop-at-preserved
loop-at-preserved c =
    c.in_ok-push.ensures.items ∙ ap (λ l. l ++ c.lent.result ∷ []) c.loop-at.invariant
    ∙ sym (lent-more c.args.segments.now c.args.places.now c.loop-at.at-index _ c.index-segments-at.result c.lent.result c.loop-at-test.true c.requires c.index-segments-at.is (ap (λ p. slice_get c.index-segments-at.result.now p) (sym c.from.ensures) ∙ c.lent.ensures))
