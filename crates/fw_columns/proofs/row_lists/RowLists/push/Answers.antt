use Rattle.std.proofs.Common.{◌≡◌, ◌+◌, ◌≤◌, ◌<◌, ℕ, List, ◌∷◌, [], ◌++◌, ◌∙◌, Some, ap, sym, subst, refl, length, length-append, arith}
use Rattle.std.specs.Prelude.{slice_get}
use Rattle.std.proofs.lemmas.Option.{slice_get-get_or}
use Rattle.fw_row_table.specs.Names.{place_of}
use Rattle.fw_row_table.specs.Texts.{with_texts}
use Rattle.fw_row_table.proofs.NameFacts.{text_at_place}
use Rattle.fw_row_table.proofs.TextFacts.{IsKnown-seen}
use Rattle.fw_columns.specs.Parts.{AreNumbered, lists_there}
use Rattle.fw_columns.proofs.PartFacts.{numbered_there, numbered_more}
use Rattle.fw_columns.proofs.row_lists.RowLists.push.Goals as goal

pub invariant_of-self : goal.invariant_of-self
invariant_of-self c =
    let s = c.self.inside in
    let now = c.add_list.new.lists in
    let codes = c.add_list.new.places.items in
    let few : length s.lists ≤ length s.places.items = c.self.invariant.0 in
    let more = numbered_more s.lists now s.places.items codes (lists_there s.lists s.places.items) c.args.list.now c.self.invariant.1 c.in-Ok.ensures.lists c.in-Ok.ensures.places in
    let size : length codes ≡ length s.places.items + 1 = ap length c.in-Ok.ensures.places ∙ length-append s.places.items (place_of now c.args.list.now ∷ []) in
    (omega (arith, few, size, c.in-Ok.ensures.few), subst (AreNumbered now codes) (sym (numbered_there now codes _ more)) more)

pub invariant_of-self-in-Err : goal.invariant_of-self-in-Err
unfolding with_texts
invariant_of-self-in-Err c = rw (c.new.ensures, c.clear.ensures.items) (omega arith, record { seen = refl; places = refl })

pub returns-in-Ok : goal.returns-in-Ok
returns-in-Ok c =
    let s = c.self.inside in
    let now = c.add_list.new.lists in
    let codes = c.add_list.new.places.items in
    let list = c.args.list.now in
    let more = numbered_more s.lists now s.places.items codes (lists_there s.lists s.places.items) list c.self.invariant.1 c.in-Ok.ensures.lists c.in-Ok.ensures.places in
    let there : lists_there now codes ≡ lists_there s.lists s.places.items ++ list ∷ [] = numbered_there now codes _ more in
    let is : now ≡ with_texts [] (lists_there now codes) = more.seen ∙ ap (with_texts []) (sym there) in
    let known : place_of now list < length now = subst (λ (names : List (List ℕ)). place_of names list < length names) (sym c.in-Ok.ensures.lists) (IsKnown-seen s.lists list).below in
    let found : slice_get now (place_of now list) ≡ Some list = slice_get-get_or now (place_of now list) [] known ∙ ap (λ xs. Some xs) (text_at_place now list [] known) in
    record {
      rows = there ∙ ap (λ xs. xs ++ list ∷ []) c.self.view_is;
      code = (λ j. slice_get (sym is j) (c.in-Ok.ensures.place j)) ∙ found;
    }
