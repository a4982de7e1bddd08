use Rattle.std.proofs.Common.{◌≡◌, ◌∙◌, ◌+◌, ◌-◌, ◌<◌, ◌++◌, ℕ, List, [], map, length, get_or, arith, sym, ap, take}
use Rattle.std.proofs.lemmas.List.{get_or-map, length-map, take_all}
use Rattle.std.proofs.lemmas.Grind.{get_or_default_zero}
use Rattle.std.proofs.lemmas.List.FromFn.{length-enumerate_from}
use Rattle.std.specs.List.{enumerate_from, flat_map}
use Rattle.fw_charge.specs.Charge.{Charge}
use Rattle.fw_cover.specs.Cover.{taken_of_row}
use Rattle.fw_cover.specs.Hour.{left_of, quantities_of}
use Rattle.fw_cover.specs.declared.taken.Taken.{Taken}
use Rattle.fw_amortise.proofs.Stepping.{flat_mapped_more, place_at}
use Rattle.fw_allocated.specs.LineRows.{rest_row, rest_rows}
use Rattle.fw_allocated.proofs.sources.rest_rows.Goals as goal

rest_more : (rows : List Charge) (taken : List Taken) (i left : ℕ) (row : Charge) (all next : List Charge) → i < length rows → row ≡ get_or rows i row
    → taken_of_row i taken + left ≡ get_or (quantities_of rows) i 0
    → all ≡ flat_map (λ r. rest_row r.1 (left_of rows taken r.0)) (take i (enumerate_from 0 rows)) → next ≡ all ++ rest_row row left
    → next ≡ flat_map (λ r. rest_row r.1 (left_of rows taken r.0)) (take (i + 1) (enumerate_from 0 rows))
unfolding left_of
rest_more rows taken i left row all next h er sum ea en =
    let is_left : left ≡ get_or (quantities_of rows) i 0 - taken_of_row i taken = omega (arith, sum) in
    flat_mapped_more (λ r. rest_row r.1 (left_of rows taken r.0)) (enumerate_from 0 rows) i (i, row) [] all next
    (omega (arith, length-enumerate_from 0 rows)) (place_at rows i row h er) ea
    (en ∙ ap (λ u. all ++ rest_row row u) is_left)

pub loop-place-preserved : goal.loop-place-preserved
loop-place-preserved c =
    let inside : c.loop-place.place < length (map (λ r. r.now) c.args.rows.now) = omega (arith, c.loop-place-test.true, length-map c.args.rows.now (λ r. r.now)) in
    let row : c.index-rows-place.result.now ≡ get_or (map (λ r. r.now) c.args.rows.now) c.loop-place.place c.index-rows-place.result.now =
    ap (λ r. r.now) c.index-rows-place.is ∙ sym (get_or-map (λ r. r.now) c.args.rows.now c.loop-place.place c.index-rows-place.result c.index-rows-place.result.now c.loop-place-test.true) in
    let left : c.index.result.now ≡ get_or c.args.cover.now.row_left.items c.loop-place.place 0 = c.index.ensures ∙ get_or_default_zero c.args.cover.now.row_left.items c.loop-place.place c.index.result.now (omega (arith, c.loop-place-test.true, c.requires.one_each)) in
    rest_more _ c.args.cover.now.taken.items c.loop-place.place c.index.result.now c.index-rows-place.result.now _ _ inside row
    (omega (arith, left, c.requires.left c.loop-place.place)) c.loop-place.invariant c.in_ok-push_rest.ensures

pub returns : goal.returns
unfolding rest_rows
returns c =
    let whole : take c.loop-place.place (enumerate_from 0 (map (λ r. r.now) c.args.rows.now)) ≡ enumerate_from 0 (map (λ r. r.now) c.args.rows.now) =
    take_all _ _ (omega (arith, c.loop-place-test.false, length-enumerate_from 0 (map (λ r. r.now) c.args.rows.now), length-map c.args.rows.now (λ r. r.now))) in
    rw whole at c.loop-place.invariant
