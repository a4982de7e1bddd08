use Rattle.std.proofs.Common.{◌≡◌, ◌∙◌, ◌+◌, ◌*◌, ◌<◌, [], ap, arith, drop, false, get_or, length, refl, sym, true}
use Rattle.std.proofs.lemmas.List.{length-drop}
use Rattle.std.specs.Str.{bytes_eq}
use Rattle.fw_charge.specs.Tags.{group_of}
use Rattle.fw_row_table.specs.Table.{tag_of, tags_of, text_at}
use Rattle.fw_row_table.proofs.LendingFacts.{group_behind, group_first, group_nowhere, tags_from, tags_short}
use Rattle.fw_row_table.proofs.lending.group_listed.Goals as goal

pub returns : goal.returns
returns c =
    let names = c.args.names.now in
    let list = c.args.list.now in
    let size = length-drop (2 * c.loop-tag.tag) list in
    let past = c.loop-tag-test.false in
    let none : tags_of names (drop (2 * c.loop-tag.tag) list) ≡ [] = tags_short names (drop (2 * c.loop-tag.tag) list) (omega (arith, size, past)) in
    sym (group_nowhere c.args.key.now) ∙ ap (group_of c.args.key.now) (sym none) ∙ c.loop-tag.invariant

pub returns-then-eq : goal.returns-then-eq
unfolding tag_of
returns-then-eq c =
    let names = c.args.names.now in
    let list = c.args.list.now in
    let key = c.args.key.now in
    let n = c.loop-tag.tag in
    let there : 2 * n + 1 < length list = omega (arith, c.loop-tag-test.true) in
    let step = tags_from names list (2 * n) (2 * n + 1) (2 * (n + 1)) 0 0 refl (omega arith) there in
    let same : bytes_eq (text_at names (get_or list (2 * n) 0)) key ≡ true = ap (λ text. bytes_eq text key) (sym c.text_at.ensures) ∙ sym c.eq.ensures ∙ c.if-eq.true in
    c.text_at-then-eq.ensures ∙ sym (group_first key (tag_of names (get_or list (2 * n) 0) (get_or list (2 * n + 1) 0)) (tags_of names (drop (2 * (n + 1)) list)) same)
    ∙ ap (group_of key) (sym step) ∙ c.loop-tag.invariant

pub loop-tag-preserved : goal.loop-tag-preserved
unfolding tag_of
loop-tag-preserved c =
    let names = c.args.names.now in
    let list = c.args.list.now in
    let key = c.args.key.now in
    let n = c.loop-tag.tag in
    let there : 2 * n + 1 < length list = omega (arith, c.loop-tag-test.true) in
    let step = tags_from names list (2 * n) (2 * n + 1) (2 * (n + 1)) 0 0 refl (omega arith) there in
    let other : bytes_eq (text_at names (get_or list (2 * n) 0)) key ≡ false = ap (λ text. bytes_eq text key) (sym c.text_at.ensures) ∙ sym c.eq.ensures ∙ c.if-eq.false in
    sym (group_behind key (tag_of names (get_or list (2 * n) 0) (get_or list (2 * n + 1) 0)) (tags_of names (drop (2 * (n + 1)) list)) other)
    ∙ ap (group_of key) (sym step) ∙ c.loop-tag.invariant
