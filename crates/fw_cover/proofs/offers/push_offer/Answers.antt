use Rattle.std.proofs.Common.{◌≡◌, ◌∙◌, ◌<◌, ◌++◌, ◌∷◌, [], Vec, ap, get_or, length, map, set, sym, vec_len, arith}
use Rattle.std.specs.declared.alloc.Global.{Global}
use Rattle.std.proofs.lemmas.List.{get_or-map, map-append, map-set}
use Rattle.fw_cover.specs.Offers.{list_for, offer_of}
use Rattle.fw_cover.specs.declared.offers.Offer.{Offer}
use Rattle.fw_cover.proofs.Tables.{put_offer}
use Rattle.fw_cover.proofs.offers.push_offer.Goals as goal

pub returns-clause-value : goal.returns-clause-value
returns-clause-value c = λ offers was.
    let view = λ (list : Vec Offer Global). map offer_of list.items in
    let lists = c.args.table.now.items in
    let own = c.list_for-list.result in
    let below : own < length lists = omega arith in
    let named : list_for (vec_len c.args.table.now) c.args.offer.sku.now ≡ own = sym (c.list_for-list.ensures.value ∙ ap (λ n. list_for n c.args.offer.sku.now) c.len.ensures) in
    let there : map offer_of c.index_mut.result.now.items ≡ get_or (map view lists) own [] = ap view c.index_mut.ensures.value ∙ sym (get_or-map view lists own c.index_mut.result.now [] below) in
    put_offer (vec_len c.args.table.now) offers (offer_of c.args.offer) (map view lists) _ (rw named (omega arith)) was
    (rw named (map-set view lists own c.push.new.self
    ∙ ap (set (map view lists) own) (ap (map offer_of) c.in_ok-push.ensures.items ∙ (map-append offer_of c.index_mut.result.now.items (c.args.offer ∷ []) ∙ ap (λ l. l ++ offer_of c.args.offer ∷ []) there))))
