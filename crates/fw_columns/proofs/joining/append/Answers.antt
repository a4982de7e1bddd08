use Rattle.std.proofs.Common.{◌≡◌, ◌∙◌, ◌≤◌, ◌<◌, ◌*◌, ◌+◌, ◌^◌, ap, sym, subst, ℕ, length, map, arith}
use Rattle.std.specs.Prelude.{All}
use Rattle.std.proofs.lemmas.List.Elements.{All-same}
use Rattle.std.proofs.lemmas.List.{length-map}
use Rattle.fw_columns.specs.Joining.{replaced}
use Rattle.fw_row_table.specs.Names.{place_of}
use Rattle.fw_row_table.specs.Table.{rows_of}
use Rattle.fw_row_table.specs.Texts.{with_texts, most_texts}
use Rattle.fw_columns.proofs.JoinFacts.{codes_below, lists_within, tags_within, appended_columns}
use Rattle.fw_columns.proofs.joining.append.Goals as goal

pub see_names-requires : goal.see_names-requires
see_names-requires c =
    let a : length c.args.table.now.names ≤ most_texts * length (rows_of c.args.table.now) = c.requires.first.names_few in
    let b : length c.args.other.now.names ≤ most_texts * length (rows_of c.args.other.now) = c.requires.second.names_few in
    omega (arith, a, b, c.requires.few)

pub see_lists-requires-clause-within : goal.see_lists-requires-clause-within
see_lists-requires-clause-within c =
    let b = c.args.other.now in
    let Within : ℕ → Type 0 = λ n. All (λ list. All (λ place. place < n) list) b.lists in
    let size : length c.as_slice.result.now ≡ length b.names =
    ap length c.as_slice.ensures.value ∙ (ap length c.in_ok-texts.ensures.places ∙ length-map b.names (place_of c.see_names.new.names)) in
    subst Within (sym size) (lists_within b (rows_of b) c.requires.second)

pub push_columns-requires-clause-codes : goal.push_columns-requires-clause-codes
push_columns-requires-clause-codes c =
    let b = c.args.other.now in
    codes_below b (rows_of b) c.requires.second (length c.as_slice-2.result.now)
    (ap length c.as_slice-2.ensures.value ∙ (ap length c.in_ok-texts.ensures.places ∙ length-map b.names (place_of c.see_names.new.names)))

pub push_columns-requires-clause-texts : goal.push_columns-requires-clause-texts
push_columns-requires-clause-texts c = All-same (λ place. place ≤ 2 ^ 30) c.as_slice-2.result.now c.in_ok-texts.texts.items c.as_slice-2.ensures.value c.in_ok-texts.ensures.within

pub push_columns-requires-clause-lists : goal.push_columns-requires-clause-lists
push_columns-requires-clause-lists c =
    let b = c.args.other.now in
    let Within : ℕ → Type 0 = λ n. All (λ place. place < n) b.tags.items in
    let texts = c.as_slice.result.now in
    let size : length c.as_slice-3.result.now ≡ length b.lists =
    ap length c.as_slice-3.ensures.value ∙ (ap length c.in_ok-lists.ensures.codes ∙ (length-map (map (replaced texts) b.lists) _ ∙ length-map b.lists (replaced texts))) in
    subst Within (sym size) (tags_within b (rows_of b) c.requires.second)

pub returns : goal.returns
returns c =
    let a = c.args.table.now in
    let n = c.push_columns.new.table in
    let b = c.args.other.now in
    let texts = c.as_slice-2.result.now in
    let lists = c.as_slice-3.result.now in
    let all = c.in_ok-push_columns.ensures in
    let names_are : n.names ≡ with_texts a.names b.names = all.names ∙ c.in_ok-texts.ensures.seen in
    let texts_are : texts ≡ map (place_of n.names) b.names =
    c.as_slice-2.ensures.value ∙ (c.in_ok-texts.ensures.places ∙ (λ j. map (place_of (sym all.names j)) b.names)) in
    let same : c.as_slice.result.now ≡ texts = c.as_slice.ensures.value ∙ sym c.as_slice-2.ensures.value in
    let lists_seen : n.lists ≡ with_texts a.lists (map (replaced texts) b.lists) =
    all.lists ∙ (c.in_ok-lists.ensures.seen ∙ (λ j. with_texts a.lists (map (replaced (same j)) b.lists))) in
    let lists_are : lists ≡ map (place_of n.lists) (map (replaced texts) b.lists) =
    c.as_slice-3.ensures.value ∙ (c.in_ok-lists.ensures.codes ∙ (λ j. map (place_of (sym all.lists j)) (map (replaced (same j)) b.lists))) in
    let names_few : length n.names ≤ length a.names + length b.names = let size : length n.names ≡ length c.see_names.new.names = ap length all.names in omega (arith, size, c.in_ok-texts.ensures.few) in
    let lists_few : length n.lists ≤ length a.lists + length b.lists = let size : length n.lists ≡ length c.see_lists.new.lists = ap length all.lists in omega (arith, size, c.in_ok-lists.ensures.few) in
    appended_columns a n b (rows_of a) (rows_of b) c.requires.first c.requires.second texts lists names_are texts_are lists_seen lists_are
    c.requires.few names_few lists_few c.see_names.new.names c.see_lists.new.lists all
