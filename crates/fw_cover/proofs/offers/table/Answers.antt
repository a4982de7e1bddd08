use Rattle.std.proofs.Common.{◌≡◌, ◌∙◌, All, ap, arith, length, map, subst, sym, take, vec_len}
use Rattle.std.specs.List.Sorted.{IsSortedBy}
use Rattle.std.proofs.lemmas.List.{map-append, take_all, take_more}
use Rattle.fw_cover.specs.Offers.{index_of, offer_before, offer_of, table_of, table_view}
use Rattle.fw_cover.specs.PlacedView.{placed_of}
use Rattle.fw_cover.proofs.Tables.{sorted_over, sorted_table}
use Rattle.fw_cover.proofs.offers.table.Goals as goal

pub loop-offer-init : goal.loop-offer-init
loop-offer-init c = record { value = rw c.in_ok-table.ensures.many c.in_ok-table.ensures.empty; some = omega (arith, c.in_ok-table.ensures.many) }

pub loop-offer-preserved : goal.loop-offer-preserved
loop-offer-preserved c =
    let d = c.offer-item.result in
    let i = c.loop-offer.offer-index in
    let more = c.in_ok-push_offer.ensures.value (map offer_of (take i c.deref-offer-items.result.now)) c.loop-offer.invariant.value in
    record {
      value = rw (c.in_ok-push_offer.ensures.many, take_more c.deref-offer-items.result.now i d c.loop-offer-test.true, map-append offer_of, ← c.offer-item.is) more;
      some = rw c.in_ok-push_offer.ensures.many c.loop-offer.invariant.some;
    }

pub returns-clause-value : goal.returns-clause-value
returns-clause-value c =
    let same = ap (map offer_of) c.deref-offer-items.ensures.value ∙ c.in_ok-index.ensures.value in
    let many : vec_len c.loop-offer.table ≡ length c.loop-offer.table.items = omega arith in
    rw (take_all c.loop-offer.offer-index c.deref-offer-items.result.now c.loop-offer-test.false, same, many) at c.loop-offer.invariant.value

pub returns-clause-sorted : goal.returns-clause-sorted
returns-clause-sorted c =
    let n = vec_len c.loop-offer.table in
    let index = index_of (map placed_of c.args.ordered.now) in
    let same = ap (map offer_of) c.deref-offer-items.ensures.value ∙ c.in_ok-index.ensures.value in
    let value : table_view c.loop-offer.table.items ≡ table_of n index = rw (take_all c.loop-offer.offer-index c.deref-offer-items.result.now c.loop-offer-test.false, same) at c.loop-offer.invariant.value in
    let sorted : IsSortedBy offer_before index = rw (← c.in_ok-index.ensures.value) (sorted_over offer_of offer_before c.in_ok-index.index.items c.in_ok-index.ensures.sorted) in
    subst (All (IsSortedBy offer_before)) (sym value) (sorted_table n index sorted)
