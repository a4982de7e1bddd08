use Rattle.std.proofs.Common.{◌≡◌, ◌∙◌, ◌<◌, [], ap, arith, get_or, length, map, sym, take}
use Rattle.std.specs.List.{enumerate_from, flat_map}
use Rattle.std.proofs.lemmas.List.{get_or-map, length-map, take_all}
use Rattle.fw_cover.specs.Offers.{pairs_with, row_offers, sku_offers}
use Rattle.fw_cover.proofs.Listing.{rows_more}
use Rattle.fw_cover.proofs.matching.pairs_by_rank.Goals as goal

pub loop-at-init : goal.loop-at-init
loop-at-init c = record { pairs = λ table found. c.in_ok-lists.ensures.empty; many = c.in_ok-lists.ensures.many }

pub loop-at-preserved : goal.loop-at-preserved
loop-at-preserved c =
    let d = c.index-rows-at.result in
    let at = c.loop-at.at in
    let o = c.index-offers-at.result in
    let in_offers : at < length c.args.offers.now = omega (arith, c.loop-at-test.true, c.requires.one_each) in
    let rows = c.args.rows.now in
    let many = c.loop-at.invariant.many in
    record {
      pairs = λ table found.
          let f = pairs_with c.args.hour table in
          let before = flat_map f (enumerate_from 0 (map (λ r. r.now) (take at rows))) in
          let own = map (λ r. r.now) rows in
          let here = get_or-map (row_offers table) own at d.now [] (omega (arith, c.loop-at-test.true, length-map rows (λ r. r.now))) in
          let row = get_or-map (λ r. r.now) rows at d d.now c.loop-at-test.true in
          let more = c.in_ok-add_row.ensures.pairs table (ap sku_offers c.index-offers-at.is ∙ sym (get_or-map sku_offers c.args.offers.now at o [] in_offers) ∙ ap (λ l. get_or l at []) found ∙ here ∙ ap (row_offers table) (row ∙ sym (ap (λ r. r.now) c.index-rows-at.is))) before (rw many (c.loop-at.invariant.pairs table found)) in
          rw (rows_more f rows at d c.loop-at-test.true, ← c.index-rows-at.is) (rw many at more);
      many = c.in_ok-add_row.ensures.many ∙ many;
    }

pub add_row-requires : goal.add_row-requires
add_row-requires c =
    let at = c.loop-at.at in
    let offers = c.args.offers.now in
    let o = c.index-offers-at.result in
    let within : at < length offers = omega (arith, c.loop-at-test.true, c.requires.one_each) in
    let here : get_or (map sku_offers offers) at [] ≡ sku_offers o = get_or-map sku_offers offers at o [] within ∙ sym (ap sku_offers c.index-offers-at.is) in
    let ranks = c.requires.ranks at [] (omega (arith, within, length-map offers sku_offers)) in
    rw c.loop-at.invariant.many (rw here at ranks)

pub returns : goal.returns
returns c = λ table found. rw (take_all c.loop-at.at c.args.rows.now c.loop-at-test.false) at (c.loop-at.invariant.pairs table found)
