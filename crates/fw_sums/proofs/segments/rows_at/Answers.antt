use Rattle.std.proofs.Common.{◌∙◌, ◌++◌, ap, sym, take}
use Rattle.fw_sums.specs.Hours.{lent, rows_at, rows_of_places}
use Rattle.fw_sums.proofs.HourFacts.{number_there, rows_at-step, rows_of_hour_places}
use Rattle.fw_sums.proofs.segments.rows_at.Goals as goal

pub places_in-requires : goal.places_in-requires
places_in-requires c = number_there c.args.segments.now c.args.places.now c.loop-at.at-index _ c.index-segments-at.result c.loop-at-test.true c.requires c.index-segments-at.is

pub loop-at-preserved : goal.loop-at-preserved
loop-at-preserved c =
    c.in_ok-lend_rows.ensures ∙ ap (λ l. l ++ rows_of_places c.index-segments-at.result.now c.places_in.result.now) c.loop-at.invariant
    ∙ ap (λ l. rows_at (lent c.args.segments.now) (take c.loop-at.at-index c.args.places.now) ++ l)
    (ap (rows_of_places c.index-segments-at.result.now) c.places_in.ensures.places ∙ rows_of_hour_places _ c.index-segments-at.result.now)
    ∙ sym (rows_at-step c.args.segments.now c.args.places.now c.loop-at.at-index _ c.index-segments-at.result c.loop-at-test.true c.requires c.index-segments-at.is)
