use Rattle.std.proofs.Common.{◌≡◌, ◌<◌, map, length, get_or, arith, sym, ap, ◌∙◌, take}
use Rattle.std.proofs.lemmas.List.{get_or-map, length-map, take_all}
use Rattle.std.proofs.lemmas.Grind.{get_or_default_zero}
use Rattle.std.proofs.lemmas.List.FromFn.{length-enumerate_from}
use Rattle.std.specs.List.{enumerate_from}
use Rattle.fw_cover.specs.Cover.{taken_of_row}
use Rattle.fw_amortise.specs.Lines.{rest_lines}
use Rattle.fw_amortise.proofs.Stepping.{left_within, rests_more}
use Rattle.fw_amortise.proofs.hour.push_rests.Goals as goal

pub push_rest-requires : goal.push_rest-requires
push_rest-requires c =
    let inside : c.loop-place.place < length (map (λ r. r.now) c.args.rows.now) = omega (arith, c.loop-place-test.true, length-map c.args.rows.now (λ r. r.now)) in
    let row : c.index-rows-place.result.now ≡ get_or (map (λ r. r.now) c.args.rows.now) c.loop-place.place c.index-rows-place.result.now =
    ap (λ r. r.now) c.index-rows-place.is ∙ sym (get_or-map (λ r. r.now) c.args.rows.now c.loop-place.place c.index-rows-place.result c.index-rows-place.result.now c.loop-place-test.true) in
    let left : c.index.result.now ≡ get_or c.args.cover.now.row_left.items c.loop-place.place 0 = c.index.ensures ∙ get_or_default_zero c.args.cover.now.row_left.items c.loop-place.place c.index.result.now (omega (arith, c.loop-place-test.true, c.requires.one_each)) in
    left_within _ c.loop-place.place c.index.result.now (taken_of_row c.loop-place.place c.args.cover.now.taken.items) c.index-rows-place.result.now inside row
    (omega (arith, left, c.requires.left c.loop-place.place))

pub loop-place-preserved : goal.loop-place-preserved
loop-place-preserved c =
    let inside : c.loop-place.place < length (map (λ r. r.now) c.args.rows.now) = omega (arith, c.loop-place-test.true, length-map c.args.rows.now (λ r. r.now)) in
    let row : c.index-rows-place.result.now ≡ get_or (map (λ r. r.now) c.args.rows.now) c.loop-place.place c.index-rows-place.result.now =
    ap (λ r. r.now) c.index-rows-place.is ∙ sym (get_or-map (λ r. r.now) c.args.rows.now c.loop-place.place c.index-rows-place.result c.index-rows-place.result.now c.loop-place-test.true) in
    let left : c.index.result.now ≡ get_or c.args.cover.now.row_left.items c.loop-place.place 0 = c.index.ensures ∙ get_or_default_zero c.args.cover.now.row_left.items c.loop-place.place c.index.result.now (omega (arith, c.loop-place-test.true, c.requires.one_each)) in
    rests_more c.args.hour _ c.args.cover.now.taken.items c.loop-place.place c.index.result.now c.index-rows-place.result.now _ c.loop-place.lines.items _ inside row
    (omega (arith, left, c.requires.left c.loop-place.place)) c.loop-place.invariant c.in_ok-push_rest.ensures

pub returns : goal.returns
unfolding rest_lines
returns c =
    let whole : take c.loop-place.place (enumerate_from 0 (map (λ r. r.now) c.args.rows.now)) ≡ enumerate_from 0 (map (λ r. r.now) c.args.rows.now) =
    take_all _ _ (omega (arith, c.loop-place-test.false, length-enumerate_from 0 (map (λ r. r.now) c.args.rows.now), length-map c.args.rows.now (λ r. r.now))) in
    rw whole at c.loop-place.invariant
