use Rattle.std.proofs.Common.{◌≡◌, rules, refl, [], ◌∷◌, ◌++◌, ◌+◌, length, take, get_or, ◌<◌, ◌∙◌, arith}
use Rattle.std.proofs.lemmas.List.{take_more, take_all}
use Rattle.std.proofs.lemmas.Grind.{get_or_default_zero}
use Rattle.fw_cover.specs.Cover.{cover_of, taken_by_all, takes_something, IsTakeWithin}
use Rattle.std.proofs.lemmas.List.Elements.{All-filter}
use Rattle.fw_cover.proofs.Left.{covered_more, covered_none, taken_kept, used_kept}
use Rattle.fw_cover.proofs.covering.cover_pairs.Goals as goal

pub loop-pair-preserved : goal.loop-pair-preserved
loop-pair-preserved c =
    let at = c.loop-pair.pair-index in
    let pairs = c.args.pairs.now in
    let pair = get_or pairs at _ in
    let more : take (at + 1) pairs ≡ take at pairs ++ pair ∷ [] = take_more pairs at _ c.loop-pair-test.true in
    let within = c.requires.pairs at _ c.loop-pair-test.true in
    let in_rows : pair.row < length c.loop-pair.row_left.items = omega (arith, within.row, c.loop-pair.invariant.rows) in
    let in_capacities : pair.commitment < length c.loop-pair.capacity_left.items = omega (arith, within.commitment, c.loop-pair.invariant.commitments) in
    covered_more c.args.billed.now c.args.quantities.now c.args.capacities.now _ _ c.loop-pair.row_left.items c.loop-pair.capacity_left.items c.loop-pair.taken.items c.keep.new.all.items
    pair c.part-part.result _ _ _ _ _ _
    within c.loop-pair.invariant more refl refl
    (c.index.ensures ∙ get_or_default_zero _ _ _ in_rows)
    (c.index-in-loop-pair.ensures ∙ get_or_default_zero _ _ _ in_capacities)
    (c.index_mut.ensures.value ∙ get_or_default_zero _ _ _ in_rows)
    (c.index_mut-in-loop-pair.ensures.value ∙ get_or_default_zero _ _ _ in_capacities)
    c.part-part.ensures.part c.part-part.ensures.within_row c.part-part.ensures.within_capacity c.part-part.ensures.nothing
    c.in_ok-keep.ensures

pub loop-pair-init : goal.loop-pair-init
loop-pair-init c =
    let rows : c.in_ok-row_left.row_left.items ≡ c.args.quantities.now = search rules in
    let commitments : c.in_ok-capacity_left.capacity_left.items ≡ c.args.capacities.now = search rules in
    let none : c.in_ok-taken.taken.items ≡ [] = search rules in
    rw (rows, commitments, none) (covered_none c.args.billed.now c.args.quantities.now c.args.capacities.now)

pub returns : goal.returns
unfolding cover_of
returns c =
    let all = c.args.pairs.now in
    let done = rw (take_all c.loop-pair.pair-index c.args.pairs.now c.loop-pair-test.false) at c.loop-pair.invariant in
    record {
      taken = done.kept_is;
      one_each = done.rows;
      one_each_commitment = done.commitments;
      takes = rw done.kept_is (All-filter takes_something (IsTakeWithin (length c.args.capacities.now) (length c.args.quantities.now)) (taken_by_all c.args.billed.now c.args.quantities.now c.args.capacities.now all) done.within);
      row_left = λ r. rw (done.kept_is, taken_kept r (taken_by_all c.args.billed.now c.args.quantities.now c.args.capacities.now all)) (done.row_is r);
      unused = λ i. rw (done.kept_is, used_kept i (taken_by_all c.args.billed.now c.args.quantities.now c.args.capacities.now all) done.nothing) (done.capacity_is i);
    }
