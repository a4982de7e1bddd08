use Rattle.std.proofs.Common.{◌≡◌, ◌∙◌, None, position, sym, ap, string_bytes}
use Rattle.std.specs.Str.{bytes_eq}
use Rattle.fw_row_table.specs.Names.{place_of}
use Rattle.fw_row_table.proofs.NameFacts.{place_first, found_behind, found_nowhere}
use Rattle.fw_row_table.proofs.names.Names.known.Goals as goal

pub returns-in-Some-clause-place : goal.returns-in-Some-clause-place
unfolding place_of
returns-in-Some-clause-place c =
    let text = c.args.text.now.now in
    let same : c.as_bytes.result.now ≡ text = c.as_bytes.ensures.value ∙ ap (λ t. t.now) c.value.ensures in
    rw (← c.self.view_is) (place_first (bytes_eq text) c.self.inside.packed _ _ (ap (λ t. position (bytes_eq t) c.self.inside.packed) (sym same) ∙ (sym c.position.ensures ∙ c.in-Some.is))).0

pub returns-in-Some-get_index_of-clause-place : goal.returns-in-Some-get_index_of-clause-place
returns-in-Some-get_index_of-clause-place c =
    let packed = c.self.inside.packed in
    let text = c.args.text.now.now in
    let same : c.as_bytes.result.now ≡ text = c.as_bytes.ensures.value ∙ ap (λ t. t.now) c.value.ensures in
    let none : position (bytes_eq text) packed ≡ None = ap (λ t. position (bytes_eq t) packed) (sym same) ∙ (sym c.position.ensures ∙ c.in_default.is) in
    let found = c.in-Some-get_index_of.ensures in
    rw (← c.self.view_is, c.len.ensures) (found_behind string_bytes packed c.self.inside.texts.keys _ _ none (sym found.index) (sym found.found))

pub returns-in-None-clause-new : goal.returns-in-None-clause-new
returns-in-None-clause-new c =
    let packed = c.self.inside.packed in
    let text = c.args.text.now.now in
    let same : c.as_bytes.result.now ≡ text = c.as_bytes.ensures.value ∙ ap (λ t. t.now) c.value.ensures in
    let none : position (bytes_eq text) packed ≡ None = ap (λ t. position (bytes_eq t) packed) (sym same) ∙ (sym c.position.ensures ∙ c.in_default.is) in
    rw (← c.self.view_is) (found_nowhere string_bytes packed c.self.inside.texts.keys _ none (sym c.in-None.ensures.found))
