use Rattle.std.proofs.Common.{◌∙◌, ◌++◌, ◌∷◌, [], ap, map, sym}
use Rattle.std.proofs.lemmas.List.{map-append}
use Rattle.fw_cover.specs.Offers.{sku_offers}
use Rattle.fw_sums.specs.Hours.{lent}
use Rattle.fw_sums.proofs.HourFacts.{row_segment_there}
use Rattle.fw_sums.proofs.ListedFacts.{offers_more}
use Rattle.fw_sums.proofs.listed.Listed.offers_at.Goals as goal

pub loop-at-preserved : goal.loop-at-preserved
loop-at-preserved c =
    let segments = c.args.segments.now in
    let places = c.args.places.now in
    let i = c.loop-at.at-index in
    let s = c.index-segments-at.result in
    let x = c.offers_of.result in
    let here = row_segment_there segments places i _ s c.loop-at-test.true c.requires.there c.index-segments-at.is in
    ap (map sku_offers) c.in_ok-push.ensures.items ∙ map-append sku_offers c.loop-at.offers.items (x ∷ []) ∙ ap (λ l. l ++ sku_offers x ∷ []) c.loop-at.invariant
    ∙ sym (offers_more segments c.args.roster.now places i _ s x c.loop-at-test.true c.requires.there c.index-segments-at.is (λ row is. c.offers_of.ensures (lent segments) here c.requires.listed row is))
