use Rattle.std.proofs.Common.{◌≡◌, ◌<◌, ◌≤◌, ◌∙◌, ℕ, true, false, List, [], length, get_or, map, drop, refl, sym, subst, arith, is_ge, Ordering, Less, Equal, Greater}
use Rattle.std.specs.Ordering.{nat_cmp, is_lt}
use Rattle.std.specs.Cmp.Lexicographic.{slice_cmp}
use Rattle.std.proofs.lemmas.List.Elements.{All-drop}
use Rattle.std.proofs.lemmas.Option.{get_or_from_slice_get}
use Rattle.fw_bytes.specs.Order.{is_before, rise_from, rise}
use Rattle.fw_row_table.specs.Names.{Text}
use Rattle.fw_row_table.specs.Table.{tag_of, tags_of, text_at}
use Rattle.fw_row_table.proofs.ListFacts.{behind_two}
use Rattle.fw_row_table.proofs.TableFacts.{tags_step, tags_nowhere}
use Rattle.fw_columns.proofs.checking.keys_rise.Invariants.{AreRising}
use Rattle.fw_columns.proofs.checking.keys_rise.Goals as goal

below : (o : Ordering) → is_ge o ≡ false → is_lt o ≡ true
below Less e = refl
below Equal e = absurd cc
below Greater e = absurd cc

above : (o : Ordering) → is_ge o ≡ true → is_lt o ≡ false
above Less e = absurd cc
above Equal e = refl
above Greater e = refl

-- the first key, and the keys behind it
begins : (names : List Text) (list : List ℕ) (last : Text) → 2 ≤ length list → last ≡ get_or names (get_or list 0 0) [] → rise_from last (map (λ t. t.key) (tags_of names (drop 2 list))) ≡ rise (map (λ t. t.key) (tags_of names list))
unfolding tag_of text_at
begins names list last two is = rw (tags_step names list two) (rw is refl)

goes_on : (names : List Text) (rest : List ℕ) (last key : Text) → 2 ≤ length rest → key ≡ get_or names (get_or rest 0 0) [] → is_before last key ≡ true
    → rise_from key (map (λ t. t.key) (tags_of names (drop 2 rest))) ≡ rise_from last (map (λ t. t.key) (tags_of names rest))
unfolding tag_of text_at
goes_on names rest last key two is lt = rw (tags_step names rest two, ← is, lt) refl

stops : (names : List Text) (rest : List ℕ) (last key : Text) → 2 ≤ length rest → key ≡ get_or names (get_or rest 0 0) [] → is_before last key ≡ false → rise_from last (map (λ t. t.key) (tags_of names rest)) ≡ false
unfolding tag_of text_at
stops names rest last key two is not_ = rw (tags_step names rest two, ← is, not_) refl

pub returns-in_default : goal.returns-in_default
returns-in_default c = rw (tags_nowhere c.args.names.now c.args.list.now c.in_default.len_below) refl

pub loop-rest-init : goal.loop-rest-init
loop-rest-init c =
    let names = c.args.names.now in
    let list = c.args.list.now in
    let Rising : List ℕ → Type 0 = λ rest. AreRising names c.text-last.result.now rest list in
    let here : c.text-last.result.now ≡ get_or names (get_or list 0 0) [] = sym (get_or_from_slice_get names (get_or list 0 0) _ [] c.text-last.ensures) in (
      subst Rising (sym (behind_two list)) (record {
        rising = begins names list c.text-last.result.now c.in-len2-up.len_at_least here;
        within = All-drop (λ place. place < length names) 2 list c.requires;
      }),
      c.text-last.utf8,
    )

pub loop-rest-preserved : goal.loop-rest-preserved
loop-rest-preserved c =
    let names = c.args.names.now in
    let list = c.args.list.now in
    let rest = c.loop-rest.rest.now in
    let Rising : List ℕ → Type 0 = λ rest. AreRising names c.text-key.result.now rest list in
    let here : c.text-key.result.now ≡ get_or names (get_or rest 0 0) [] = sym (get_or_from_slice_get names (get_or rest 0 0) _ [] c.text-key.ensures) in
    let lt : is_before c.loop-rest.last.now c.text-key.result.now ≡ true = below (slice_cmp nat_cmp c.loop-rest.last.now c.text-key.result.now) (sym c.ge.ensures ∙ c.if-ge.false) in (
      subst Rising (sym (behind_two rest)) (record {
        rising = goes_on names rest c.loop-rest.last.now c.text-key.result.now c.in-len2-up-rest.len_at_least here lt ∙ c.loop-rest.invariant.0.rising;
        within = All-drop (λ place. place < length names) 2 rest c.loop-rest.invariant.0.within;
      }),
      c.text-key.utf8,
    )

pub returns-then-ge : goal.returns-then-ge
returns-then-ge c =
    let names = c.args.names.now in
    let rest = c.loop-rest.rest.now in
    let here : c.text-key.result.now ≡ get_or names (get_or rest 0 0) [] = sym (get_or_from_slice_get names (get_or rest 0 0) _ [] c.text-key.ensures) in
    let not_ : is_before c.loop-rest.last.now c.text-key.result.now ≡ false = above (slice_cmp nat_cmp c.loop-rest.last.now c.text-key.result.now) (sym c.ge.ensures ∙ c.if-ge.true) in
    sym (stops names rest c.loop-rest.last.now c.text-key.result.now c.in-len2-up-rest.len_at_least here not_) ∙ c.loop-rest.invariant.0.rising

pub returns : goal.returns
returns c =
    let short : length c.loop-rest.rest.now < 2 = omega (arith, c.in_default-rest.len_below) in
    let ended : rise_from c.loop-rest.last.now (map (λ t. t.key) (tags_of c.args.names.now c.loop-rest.rest.now)) ≡ true = rw (tags_nowhere c.args.names.now c.loop-rest.rest.now short) refl in
    sym ended ∙ c.loop-rest.invariant.0.rising
