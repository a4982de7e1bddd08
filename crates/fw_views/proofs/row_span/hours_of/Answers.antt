use Rattle.std.proofs.Common.{◌≡◌, ◌∙◌, ◌+◌, ◌++◌, ◌∷◌, [], ap, arith, map, subst, sym, take}
use Rattle.std.proofs.lemmas.List.{take_all, take_more}
use Rattle.fw_posted.specs.Rows.{segment_rows}
use Rattle.fw_views.specs.RowSpan.{AreEnds, start_hours}
use Rattle.fw_views.proofs.Ends.{next_rows, with_segment}
use Rattle.fw_views.proofs.row_span.hours_of.Goals as goal

pub loop-columns-preserved : goal.loop-columns-preserved
loop-columns-preserved c =
    let segments = c.args.segments.now in
    let place = c.loop-columns.columns-index in
    let item = c.columns-item.result in
    let here = segment_rows (map (λ s. s.now) (take place segments)) in
    let taken : take (place + 1) segments ≡ take place segments ++ item ∷ [] =
    take_more segments place item c.loop-columns-test.true
    ∙ (λ j. take place segments ++ sym c.columns-item.is j ∷ []) in
    let rows = ap (λ xs. segment_rows (map (λ s. s.now) xs)) taken ∙ next_rows (λ s. s.now) (take place segments) item in
    subst (λ xs. AreEnds (start_hours xs) c.with_hours-found.result) (sym rows)
    (with_segment here item.now c.hours.result.now c.with_hours-found.result c.hours.ensures.each
    (c.with_hours-found.ensures (start_hours here) c.loop-columns.invariant))

pub returns : goal.returns
returns c =
    subst (λ xs. AreEnds (start_hours (segment_rows (map (λ s. s.now) xs))) c.loop-columns.found)
    (take_all c.loop-columns.columns-index c.args.segments.now c.loop-columns-test.false) c.loop-columns.invariant
