use Rattle.std.proofs.Common.{◌≡◌, ◌∙◌, None, position, sym, ap}
use Rattle.std.specs.Prelude.{vec_items}
use Rattle.std.specs.Str.{bytes_eq}
use Rattle.fw_row_table.specs.Names.{place_of}
use Rattle.fw_row_table.proofs.NameFacts.{place_first, found_behind, found_nowhere}
use Rattle.fw_row_table.proofs.lists.Lists.known.Goals as goal

pub returns-in-Some-clause-place : goal.returns-in-Some-clause-place
unfolding place_of
returns-in-Some-clause-place c =
    let list = c.args.list.now.now in
    let same : c.value.result.now.now ≡ list = ap (λ l. l.now) c.value.ensures in
    rw (← c.self.view_is) (place_first (bytes_eq list) c.self.inside.packed _ _ (ap (λ l. position (bytes_eq l) c.self.inside.packed) (sym same) ∙ (sym c.position.ensures ∙ c.in-Some.is))).0

pub returns-in-Some-get_index_of-clause-place : goal.returns-in-Some-get_index_of-clause-place
returns-in-Some-get_index_of-clause-place c =
    let packed = c.self.inside.packed in
    let list = c.args.list.now.now in
    let same : c.value.result.now.now ≡ list = ap (λ l. l.now) c.value.ensures in
    let none : position (bytes_eq list) packed ≡ None = ap (λ l. position (bytes_eq l) packed) (sym same) ∙ (sym c.position.ensures ∙ c.in_default.is) in
    let found = c.in-Some-get_index_of.ensures in
    rw (← c.self.view_is, c.len.ensures) (found_behind vec_items packed c.self.inside.lists.keys _ _ none (sym found.index) (sym found.found))

pub returns-in-None-clause-new : goal.returns-in-None-clause-new
returns-in-None-clause-new c =
    let packed = c.self.inside.packed in
    let list = c.args.list.now.now in
    let same : c.value.result.now.now ≡ list = ap (λ l. l.now) c.value.ensures in
    let none : position (bytes_eq list) packed ≡ None = ap (λ l. position (bytes_eq l) packed) (sym same) ∙ (sym c.position.ensures ∙ c.in_default.is) in
    rw (← c.self.view_is) (found_nowhere vec_items packed c.self.inside.lists.keys _ none (sym c.in-None.ensures.found))
