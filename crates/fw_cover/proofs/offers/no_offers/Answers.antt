use Rattle.std.proofs.Common.{◌∙◌, ◌++◌, ◌∷◌, [], Vec, ap, map, rules, sym, arith}
use Rattle.std.specs.declared.alloc.Global.{Global}
use Rattle.std.proofs.lemmas.List.{map_push}
use Rattle.std.proofs.lemmas.List.FromFn.{map-range_with_len_more}
use Rattle.fw_cover.specs.Offers.{of_list, offer_of, table_view}
use Rattle.fw_cover.specs.declared.offers.Offer.{Offer}
use Rattle.fw_cover.proofs.offers.no_offers.Goals as goal

pub loop-list-preserved : goal.loop-list-preserved
unfolding of_list
loop-list-preserved c =
    let view = λ (list : Vec Offer Global). map offer_of list.items in
    record {
      empty =
          ap table_view c.in_ok-push.ensures.items ∙ map_push view c.loop-list.table.items c.new.result
          ∙ (λ j. c.loop-list.invariant.empty j ++ map offer_of (c.new.ensures.items j) ∷ [])
          ∙ sym (map-range_with_len_more (of_list c.args.lists []) 0 c.loop-list._list c.loop-list._list (omega arith));
      many = search rules;
    }
