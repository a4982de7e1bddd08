use Rattle.std.proofs.Common.{rules, ap, ◌∙◌, map}
use Rattle.std.specs.Cmp.{IsStrictWeakOrder}
use Rattle.std.proofs.lemmas.Cmp.{nat_list_cmp_total}
use Rattle.std.proofs.lemmas.List.Sorted.{answers_always, ranks_by}
use Rattle.fw_cover.specs.Offers.{offer_of, offer_before, index_of}
use Rattle.fw_cover.specs.Order.{in_order}
use Rattle.fw_cover.specs.declared.offers.Offer.{Offer}
use Rattle.fw_cover.proofs.Sorting.{sorted_in_order, map_in_order}
use Rattle.fw_cover.proofs.offers.index.Goals as goal

weak : IsStrictWeakOrder {X = Offer} (λ a b. offer_before (offer_of a) (offer_of b))
weak = ranks_by nat_list_cmp_total (λ o. o.sku.now)

pub returns : goal.returns
unfolding index_of
returns c =
    let before = λ (a b : Offer). offer_before (offer_of a) (offer_of b) in
    let compares = answers_always _ _ _ (λ f a r g h. search rules) in
    record {
      value = ap (map offer_of) (sorted_in_order before weak c.in_ok-offers.offers.items c.sort_by.new.self.items (c.in_ok-sort_by.ensures.sorted before weak compares) (c.in_ok-sort_by.ensures.stable before weak compares))
          ∙ (map_in_order offer_of offer_before c.in_ok-offers.offers.items ∙ ap (in_order offer_before) c.in_ok-offers.ensures);
      sorted = c.in_ok-sort_by.ensures.sorted before weak compares;
    }
