use Rattle.std.proofs.Common.{◌≡◌, ◌∙◌, [], Vec, ap, arith, get_or, length, map, sym}
use Rattle.std.specs.declared.alloc.Global.{Global}
use Rattle.std.proofs.lemmas.List.{get_or-map, length-map}
use Rattle.fw_cover.specs.Offers.{list_for, offer_before, offer_of, table_view}
use Rattle.fw_cover.specs.declared.offers.Offer.{Offer}
use Rattle.fw_cover.proofs.Index.{one_sku}
use Rattle.fw_cover.proofs.Tables.{sorted_under}
use Rattle.fw_cover.proofs.offers.offered.Goals as goal

pub run_in-requires : goal.run_in-requires
run_in-requires c =
    let view = λ (list : Vec Offer Global). map offer_of list.items in
    let table = c.args.table.now in
    let at = c.list_for.result in
    let own = c.index-table-list_for.result in
    let here : get_or (table_view table) at [] ≡ map offer_of c.as_slice-list.result.now =
    get_or-map view table at own [] c.list_for.ensures.within ∙ sym (ap view c.index-table-list_for.is) ∙ sym (ap (map offer_of) c.as_slice-list.ensures.value) in
    sorted_under offer_of offer_before c.as_slice-list.result.now (rw here at (c.requires.sorted at [] (omega (arith, c.list_for.ensures.within, length-map table view))))

pub returns-in-Some-Some : goal.returns-in-Some-Some
returns-in-Some-Some c =
    let view = λ (list : Vec Offer Global). map offer_of list.items in
    let table = c.args.table.now in
    let sku = c.args.sku.now in
    let at = c.list_for.result in
    let own = c.index-table-list_for.result in
    let here : get_or (table_view table) at [] ≡ map offer_of c.as_slice-list.result.now =
    get_or-map view table at own [] c.list_for.ensures.within ∙ sym (ap view c.index-table-list_for.is) ∙ sym (ap (map offer_of) c.as_slice-list.ensures.value) in
    let sorted = sorted_under offer_of offer_before c.as_slice-list.result.now (rw here at (c.requires.sorted at [] (omega (arith, c.list_for.ensures.within, length-map table view)))) in
    let named : list_for (length (table_view table)) sku ≡ at = ap (λ n. list_for n sku) (length-map table view) ∙ sym c.list_for.ensures.value in
    rw (named, here) (one_sku sku c.as_slice-list.result.now c.in-Some-Some.first.now c.in-Some-Some.last.now sorted (sym c.in-Some-Some.ensures.value) (sym c.in-Some-Some.ensures'.value)
    (sym c.eq.ensures ∙ c.if-eq.true) (sym c.eq-then-eq.ensures ∙ c.if-eq-2.true))
