use Rattle.std.proofs.Common.{rules, ◌≡◌, ◌∙◌, ◌+◌, ◌<◌, ◌++◌, ◌∷◌, [], ℕ, List, length, map, take, drop, get_or, sym, ap, append_assoc, arith}
use Rattle.std.proofs.lemmas.List.{drop_more, map-append, take_more}
use Rattle.fw_group.specs.Items.{entry_of, importer_of}
use Rattle.fw_group.specs.declared.inbox.Item.{Item}
use Rattle.fw_group.proofs.hand.move_front.Goals as goal

-- a list from a place on begins with the item there
one_more : (items : List Item) (n : ℕ) (item : Item) (rest : List Item) → n < length items → drop n items ≡ item ∷ rest → (take (n + 1) items ≡ take n items ++ item ∷ []) × (rest ≡ drop (n + 1) items)
one_more items n item rest within is =
    let both : get_or items n item ∷ drop (n + 1) items ≡ item ∷ rest = sym (drop_more items n item within) ∙ is in
    let same : get_or items n item ≡ item = cc in
    let later : drop (n + 1) items ≡ rest = cc in
    (take_more items n item within ∙ ap (λ i. take n items ++ i ∷ []) same, sym later)

-- what is read off the items so far, and off one more
read_one : {A : Type 0} (f : Item → A) (items : List Item) (n : ℕ) (item : Item) (initial old new : List A) → take (n + 1) items ≡ take n items ++ item ∷ []
    → old ≡ initial ++ map f (take n items) → new ≡ old ++ f item ∷ [] → new ≡ initial ++ map f (take (n + 1) items)
read_one f items n item initial old new more so_far is =
    is
    ∙ (ap (λ l. l ++ f item ∷ []) so_far
    ∙ (append_assoc initial (map f (take n items)) (f item ∷ []) ∙ ap (λ l. initial ++ l) (sym (ap (map f) more ∙ map-append f (take n items) (item ∷ [])))))

pub loop-preserved : goal.loop-preserved
loop-preserved c =
    let items = c.args.items.now.items in
    let n = c.loop.counter in
    let item = c.unwrap-importer.result in
    let within : n < length items = omega (arith, c.loop-test.true, c.requires.have) in
    let popped : c.loop.items.items ≡ item ∷ c.pop_front.new.self.items = search rules in
    let parts = one_more items n item c.pop_front.new.self.items within (sym c.loop.invariant.rest ∙ popped) in
    record {
      importers = read_one importer_of items n item c.args.importers.now.items c.loop.importers.items c.push_reserved.new.self.items parts.0 c.loop.invariant.importers c.push_reserved.ensures.items;
      entries = read_one entry_of items n item c.args.entries.now.items c.loop.entries.items c.push_reserved-in-loop.new.self.items parts.0 c.loop.invariant.entries c.push_reserved-in-loop.ensures.items;
      rest = parts.1;
      importer_room = search rules;
      entry_room = search rules;
    }
