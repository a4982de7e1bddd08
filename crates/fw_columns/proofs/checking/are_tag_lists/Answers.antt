use Rattle.std.proofs.Common.{◌≡◌, ◌<◌, ◌∙◌, true, All, List, ℕ, [], length, get_or, map, subst, sym, arith}
use Rattle.std.proofs.lemmas.Option.{get_or_from_slice_get}
use Rattle.fw_bytes.specs.Order.{rise}
use Rattle.fw_bytes.proofs.Rising.{rise_from_sorted}
use Rattle.fw_row_table.specs.Table.{tags_of}
use Rattle.fw_columns.specs.Parts.{IsTagList}
use Rattle.fw_columns.proofs.PartFacts.{all_more, all_taken, are_tags, refused, yes}
use Rattle.fw_columns.proofs.checking.are_tag_lists.Goals as goal

pub keys_rise-requires : goal.keys_rise-requires
keys_rise-requires c =
    let lists = c.args.lists.now in
    let i = c.loop-place.place in
    let lt : i < length lists = omega (arith, c.loop-place-test.true, c.len-place-end.ensures.count) in
    subst (All (λ place. place < length c.args.names.now)) (get_or_from_slice_get lists i _ [] c.list.ensures) (c.requires.places i [] lt).within

pub loop-place-preserved : goal.loop-place-preserved
loop-place-preserved c =
    let names = c.args.names.now in
    let lists = c.args.lists.now in
    let i = c.loop-place.place in
    let lt : i < length lists = omega (arith, c.loop-place-test.true, c.len-place-end.ensures.count) in
    let here = get_or_from_slice_get lists i _ [] c.list.ensures in
    let rising : rise (map (λ t. t.key) (tags_of names c.list.result.now)) ≡ true = sym c.keys_rise.ensures ∙ c.if-not-keys_rise.false in
    let Rise : List ℕ → Type 0 = λ list. rise (map (λ t. t.key) (tags_of names list)) ≡ true in
    all_more (IsTagList names) lists i [] c.loop-place.invariant lt (are_tags names c.requires.sized (get_or lists i []) (c.requires.places i [] lt) (subst Rise (sym here) rising))

pub returns-then-not-keys_rise : goal.returns-then-not-keys_rise
returns-then-not-keys_rise c = refused c.keys_rise.result c.if-not-keys_rise.true (λ all.
    let names = c.args.names.now in
    let lists = c.args.lists.now in
    let i = c.loop-place.place in
    let lt : i < length lists = omega (arith, c.loop-place-test.true, c.len-place-end.ensures.count) in
    let are = subst (IsTagList names) (get_or_from_slice_get lists i _ [] c.list.ensures) (all i [] lt) in
    c.keys_rise.ensures ∙ rise_from_sorted (map (λ t. t.key) (tags_of names c.list.result.now)) are.rising)

pub returns : goal.returns
returns c = yes (all_taken (IsTagList c.args.names.now) c.args.lists.now c.loop-place.place c.loop-place.invariant (omega (arith, c.loop-place-test.false, c.len-place-end.ensures.count)))
