use Rattle.std.proofs.Common.{◌≡◌, ◌∙◌, ◌≤◌, ◌+◌, ◌++◌, Bor, List, Some, ap, append_assoc, arith, length, map, subst, sym, take}
use Rattle.std.specs.Prelude.{slice_get}
use Rattle.std.proofs.lemmas.List.{length-map, map-append, take_all}
use Rattle.std.proofs.lemmas.List.Elements.{filter-append}
use Rattle.fw_charge.specs.Charge.{Charge, hour_of}
use Rattle.fw_sums.specs.Hours.{all_rows, is_marked, lent, row_cost, rows_marked}
use Rattle.fw_sums.specs.Sums.{Counts}
use Rattle.fw_sums.proofs.HourFacts.{all_rows-more, lent_there}
use Rattle.fw_sums.proofs.groups.Groups.add_segments.Goals as goal

pub add_segment-requires : goal.add_segment-requires
add_segment-requires c = (_, c.loop-segment.invariant c.requires.0 c.requires.1)

pub loop-segment-preserved : goal.loop-segment-preserved
loop-segment-preserved c = λ costs counts.
    let i = c.loop-segment.segment-index in
    let segment = c.segment-item.result.now in
    let segments = lent c.args.segments.now in
    let key = c.args.key.now in
    let marked = rows_marked c.args.marks.now c.args.from in
    let there : slice_get segments i ≡ Some segment = lent_there c.args.segments.now i c.segment-item.result c.loop-segment-test.true c.segment-item.is in
    let more : map (row_cost key) (marked (all_rows (take (i + 1) segments))) ≡ map (row_cost key) (marked (all_rows (take i segments))) ++ map (row_cost key) (marked segment) =
    ap (map (row_cost key)) (ap marked (all_rows-more segments i segment there) ∙ filter-append (λ row. is_marked c.args.marks.now c.args.from (hour_of row.start)) (all_rows (take i segments)) segment)
    ∙ map-append (row_cost key) (marked (all_rows (take i segments))) (marked segment) in
    subst (Counts c.add_segment.new.self) (append_assoc costs (map (row_cost key) (marked (all_rows (take i segments)))) (map (row_cost key) (marked segment)) ∙ ap (λ l. costs ++ l) (sym more))
    (c.in_ok-add_segment.ensures _ (c.loop-segment.invariant costs counts))

pub returns : goal.returns
returns c =
    let end : length (lent c.args.segments.now) ≤ c.loop-segment.segment-index =
    (let test = c.loop-segment-test.false in let same = length-map c.args.segments.now (λ (s : Bor (List Charge)). s.now) in omega (arith, test, same)) in
    rw (take_all c.loop-segment.segment-index (lent c.args.segments.now) end) at c.loop-segment.invariant
