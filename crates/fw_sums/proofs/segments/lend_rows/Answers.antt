use Rattle.std.proofs.Common.{◌∙◌, ◌++◌, ◌∷◌, [], ap, append_assoc, sym, take}
use Rattle.std.specs.Prelude.{slice_get}
use Rattle.fw_sums.specs.Hours.{rows_of_places}
use Rattle.fw_sums.proofs.HourFacts.{places-more}
use Rattle.fw_sums.proofs.segments.lend_rows.Goals as goal

pub loop-place-preserved : goal.loop-place-preserved
loop-place-preserved c =
    c.in_ok-push.ensures.items ∙ ap (λ l. l ++ c.lent.result ∷ []) c.loop-place.invariant
    ∙ append_assoc c.args.rows.now.items (rows_of_places c.args.segment.now (take c.loop-place.place-index c.args.places.now)) (c.lent.result ∷ [])
    ∙ ap (λ l. c.args.rows.now.items ++ l) (sym (places-more c.args.segment.now c.args.places.now c.loop-place.place-index _ c.lent.result c.loop-place-test.true (ap (λ p. slice_get c.args.segment.now p) (sym c.from.ensures) ∙ c.lent.ensures)))
