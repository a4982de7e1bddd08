use Rattle.std.proofs.Common.{◌≡◌, ◌∙◌, [], List, Option, Vec, ap, arith, get_or, length, map, rules, sym, ℕ}
use Rattle.std.specs.declared.alloc.Global.{Global}
use Rattle.std.proofs.lemmas.List.{get_or-map, length-map, map-append}
use Rattle.fw_row_table.specs.Texts.{names_of}
use Rattle.fw_cover.specs.declared.offers.SkuOffers.{SkuOffers}
use Rattle.fw_sums.specs.Hours.{lent}
use Rattle.fw_sums.specs.Listed.{AreListed, AreOffersByCode}
use Rattle.fw_sums.proofs.ListedFacts.{each_pushed}
use Rattle.fw_sums.proofs.listed.Listed.of_segments.Goals as goal

pub returns-then-not-has_mark : goal.returns-then-not-has_mark
unfolding AreListed
returns-then-not-has_mark c = λ segment code. rw c.new-by_code.ensures.items (search rules)

pub loop-segment-preserved : goal.loop-segment-preserved
loop-segment-preserved c =
    let segments = lent c.args.segments.now in
    let items = λ (found : Vec (Option SkuOffers) Global). found.items in
    let old = map items c.loop-segment.by_code.items in
    let new = c.in_ok-offers_by_code.field-0 in
    let P : ℕ → List (Option SkuOffers) → Type 0 = λ k found. AreOffersByCode c.args.roster.now (names_of (get_or segments k [])) found in
    let many = c.loop-segment.invariant.many in
    let place : length old ≡ c.loop-segment.segment-index = length-map c.loop-segment.by_code.items items ∙ many in
    let here : get_or segments c.loop-segment.segment-index [] ≡ c.segment-item.result.now =
    get_or-map (λ s. s.now) c.args.segments.now c.loop-segment.segment-index c.segment-item.result [] c.loop-segment-test.true ∙ sym (ap (λ s. s.now) c.segment-item.is) in
    let last : P (length old) new.items = rw (place, here) c.in_ok-offers_by_code.ensures in
    record {
      each = λ k. rw (c.in_ok-push.ensures.items, map-append) (each_pushed P [] (λ k code. search rules) old new.items c.loop-segment.invariant.each last k);
      many = omega (arith, c.in_ok-push.ensures.len, many);
    }

pub returns : goal.returns
unfolding AreListed
returns c = c.loop-segment.invariant.each
