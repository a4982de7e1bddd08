use Rattle.std.proofs.Common.{◌∙◌, ◌<◌, ◌++◌, append_assoc, map, take, vec_len}
use Rattle.std.specs.List.{filter_map}
use Rattle.fw_cover.specs.Offers.{offer_of, pair_by}
use Rattle.fw_cover.proofs.Listing.{pairs_more}
use Rattle.fw_cover.proofs.Within.{all_under}
use Rattle.fw_cover.proofs.matching.add_pairs.Goals as goal

pub add_pair-requires : goal.add_pair-requires
add_pair-requires c =
    let within = all_under offer_of (λ o. o.standing.0 < vec_len c.args.lists.now) c.args.offers.now c.requires c.loop-offer.offer-index c.offer-item.result c.loop-offer-test.true in
    rw c.loop-offer.invariant.many (rw (← c.offer-item.is) at within)

pub loop-offer-preserved : goal.loop-offer-preserved
loop-offer-preserved c =
    let h = pair_by c.args.hour (c.args.at, c.args.row.now) in
    let i = c.loop-offer.offer-index in
    let d = c.offer-item.result in
    let many = c.loop-offer.invariant.many in
    record {
      pairs = λ all was.
          let before = all ++ filter_map h (map offer_of (take i c.args.offers.now)) in
          let more = c.in_ok-add_pair.ensures.pairs before (rw many (c.loop-offer.invariant.pairs all was)) in
          rw (pairs_more h c.args.offers.now i d c.loop-offer-test.true, ← c.offer-item.is) (rw (many, append_assoc) at more);
      many = c.in_ok-add_pair.ensures.many ∙ many;
    }
