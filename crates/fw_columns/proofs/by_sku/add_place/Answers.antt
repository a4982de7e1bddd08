use Rattle.std.proofs.Common.{◌≡◌, ◌∙◌, ◌<◌, ◌++◌, ◌∷◌, [], ap, arith, get_or, length, map, sym}
use Rattle.std.specs.Prelude.{vec_items}
use Rattle.std.proofs.lemmas.List.{get_or-map, length-map, map-set}
use Rattle.fw_columns.proofs.MetFacts.{place_added}
use Rattle.fw_columns.proofs.by_sku.add_place.Goals as goal

pub returns-clause-lists : goal.returns-clause-lists
returns-clause-lists c = λ k.
    let lists = map vec_items c.args.lists.now.items in
    let below : c.args.which < length c.args.lists.now.items = omega arith in
    let size : length lists ≡ length c.args.lists.now.items = length-map c.args.lists.now.items vec_items in
    let there : c.index_mut.result.now.items ≡ get_or lists c.args.which [] =
    ap vec_items c.index_mut.ensures.value ∙ sym (get_or-map vec_items c.args.lists.now.items c.args.which c.index_mut.result.now [] below) in
    let pushed : c.push.new.self.items ≡ get_or lists c.args.which [] ++ c.args.place ∷ [] = c.in_ok-push.ensures.items ∙ ap (λ l. l ++ c.args.place ∷ []) there in
    ap (λ l. get_or l k []) (map-set vec_items c.args.lists.now.items c.args.which c.push.new.self) ∙ place_added lists c.args.which c.args.place c.push.new.self.items (omega (arith, size, below)) pushed k
