-- The tags of texts of kept columns, and tags with others added.
use Rattle.std.proofs.Common.{◌≡◌, ◌≤◌, ◌+◌, ℕ, zero, suc, List, [], ◌∷◌, ◌++◌, map, length, take, drop, set, get_or, min, ◌<◌, String, Global, string_bytes, Ordering, Less, Equal, Greater, refl, sym, ap, ◌∙◌, arith, append-nil}
use Rattle.std.proofs.lemmas.Cmp.{nat_list_cmp_total}
use Rattle.std.proofs.lemmas.List.{drop-set, drop_more, get_or-map, length-map, take-append-drop, take-set}
use Rattle.std.specs.Cmp.Lexicographic.{slice_cmp}
use Rattle.std.specs.FinMap.{nat_cmp-IsAntisymmetric, slice_cmp-IsAntisymmetric}
use Rattle.std.specs.List.{AllByRecursion}
use Rattle.std.specs.List.Sorted.{IsStrictlySortedBy}
use Rattle.std.specs.Ordering.{nat_cmp, ordering_reverse}
use Rattle.fw_charge.specs.Tags.{TagText}
use Rattle.fw_rows.specs.Kept.{before, tags_kept, with_tag, with_tags}
use Rattle.fw_rows.specs.Keeping.{KeysRise}
use Rattle.fw_rows.specs.Keeps.{KeepText}

-- ---- the tags that texts of kept columns are

pub before-null : (key text : List ℕ) (tags : List TagText) → text ≡ [] → tags ≡ tags ++ before key text []
before-null key text tags null = rw null (sym (append-nil tags))

before-append : (key text : List ℕ) (tags more : List TagText) → before key text (tags ++ more) ≡ before key text tags ++ more
before-append key [] tags more = refl
before-append key (b ∷ text) tags more = refl

kept-suc : (keeps : List KeepText) (texts : List (List ℕ)) (i : ℕ) (k : KeepText) (t : List ℕ) → i < length keeps → i < length texts
    → tags_kept (take (suc i) keeps) (take (suc i) texts) ≡ tags_kept (take i keeps) (take i texts) ++ before (get_or keeps i k).key (get_or texts i t) []
kept-suc [] texts i k t lt below = absurd (omega arith)
kept-suc (keep ∷ keeps) [] i k t lt below = absurd (omega arith)
kept-suc (keep ∷ keeps) (text ∷ texts) zero k t lt below = refl
kept-suc (keep ∷ keeps) (text ∷ texts) (suc i) k t lt below =
    ap (before keep.key text) (kept-suc keeps texts i k t (omega arith) (omega arith))
    ∙ before-append keep.key text (tags_kept (take i keeps) (take i texts)) (before (get_or keeps i k).key (get_or texts i t) [])

-- the tags of one text more
pub kept-more : (keeps : List KeepText) (texts : List (List ℕ)) (i : ℕ) (k : KeepText) (t : List ℕ) → i < length keeps → i < length texts
    → tags_kept (take (i + 1) keeps) (take (i + 1) texts) ≡ tags_kept (take i keeps) (take i texts) ++ before (get_or keeps i k).key (get_or texts i t) []
kept-more keeps texts i k t lt below = let on : i + 1 ≡ suc i = omega arith in ap (λ n. tags_kept (take n keeps) (take n texts)) on ∙ kept-suc keeps texts i k t lt below

-- the tags of all texts
pub kept-whole : (keeps : List KeepText) (texts : List (List ℕ)) (n : ℕ) → min (length keeps) (length texts) ≤ n → tags_kept (take n keeps) (take n texts) ≡ tags_kept keeps texts
kept-whole [] texts zero few = refl
kept-whole [] texts (suc n) few = refl
kept-whole (keep ∷ keeps) [] zero few = refl
kept-whole (keep ∷ keeps) [] (suc n) few = refl
kept-whole (keep ∷ keeps) (text ∷ texts) zero few = absurd (omega arith)
kept-whole (keep ∷ keeps) (text ∷ texts) (suc n) few = ap (before keep.key text) (kept-whole keeps texts n (omega arith))

-- one text of a kept column more
pub kept-turn : (new old : List TagText) (keeps : List KeepText) (values : List (String Global)) (i : ℕ) (k : KeepText) (v : String Global) (key text : List ℕ) → i < length keeps → i < length values
    → new ≡ old ++ before key text [] → old ≡ tags_kept (take i keeps) (take i (map string_bytes values)) → key ≡ k.key → text ≡ string_bytes v → k ≡ get_or keeps i k → v ≡ get_or values i v
    → new ≡ tags_kept (take (i + 1) keeps) (take (i + 1) (map string_bytes values))
kept-turn new old keeps values i k v key text lt below more so_far is_key is_text at_keep at_value =
    let sofar = tags_kept (take i keeps) (take i (map string_bytes values)) in
    let value : text ≡ get_or (map string_bytes values) i text = is_text ∙ ap string_bytes at_value ∙ sym (get_or-map string_bytes values i v text below) in
    let name : key ≡ (get_or keeps i k).key = is_key ∙ ap (λ (t : KeepText). t.key) at_keep in
    more ∙ ap (λ o. o ++ before key text []) so_far
    ∙ ap (λ n. sofar ++ before n text []) name
    ∙ ap (λ t. sofar ++ before (get_or keeps i k).key t []) value
    ∙ sym (kept-more keeps (map string_bytes values) i k text lt (omega (arith, length-map values (λ (s : String Global). string_bytes s))))

pub kept-all : (tags : List TagText) (keeps : List KeepText) (values : List (String Global)) (n : ℕ) → tags ≡ tags_kept (take n keeps) (take n (map string_bytes values)) → min (length keeps) (length values) ≤ n
    → tags ≡ tags_kept keeps (map string_bytes values)
kept-all tags keeps values n is few =
    is ∙ kept-whole keeps (map string_bytes values) n (omega (arith, length-map values (λ (s : String Global). string_bytes s)))

-- ---- a tag that is put among others

compared : (a b : List ℕ) → slice_cmp nat_cmp a b ≡ Equal → a ≡ b
compared = slice_cmp-IsAntisymmetric nat_cmp-IsAntisymmetric

-- it takes the place of one with its key
pub takes_place : (tag t : TagText) (tags : List TagText) (i : ℕ) → i < length tags → t ≡ get_or tags i t → slice_cmp nat_cmp tag.key t.key ≡ Equal
    → with_tag tag tags ≡ take i tags ++ with_tag tag (drop i tags) → set tags i tag ≡ with_tag tag tags
takes_place tag t tags i lt is level so_far =
    let rest = drop (i + 1) tags in
    let here : drop i tags ≡ t ∷ rest = drop_more tags i t lt ∙ ap (λ y. y ∷ rest) (sym is) in
    let key : record { key = t.key; value = tag.value } ≡ tag = ap (λ k. record { key = k; value = tag.value }) (sym (compared tag.key t.key level)) in
    let on : with_tag tag (drop i tags) ≡ tag ∷ rest = rw (here, level) (ap (λ x. x ∷ rest) key) in
    let whole : set tags i tag ≡ take i tags ++ tag ∷ rest =
    sym (take-append-drop i (set tags i tag)) ∙ ap (λ ts. ts ++ drop i (set tags i tag)) (take-set tags i tag) ∙ ap (λ ts. take i tags ++ ts) (drop-set tags i tag lt) in
    whole ∙ sym (so_far ∙ ap (λ ts. take i tags ++ ts) on)

-- ---- the keys rise

abbrev IsBelow : List ℕ → List TagText → Type 0
IsBelow key tags = AllByRecursion (λ other. slice_cmp nat_cmp key other ≡ Less) (map (λ t. t.key) tags)

above : (a b : List ℕ) → slice_cmp nat_cmp a b ≡ Greater → slice_cmp nat_cmp b a ≡ Less
above a b is = nat_list_cmp_total.antisymm b a ∙ ap ordering_reverse is

below_all : (a b : List ℕ) (tags : List TagText) → slice_cmp nat_cmp a b ≡ Less → IsBelow b tags → IsBelow a tags
below_all a b [] lt h = tt
below_all a b (t ∷ tags) lt h = (nat_list_cmp_total.trans a b t.key lt h.0, below_all a b tags lt h.1)

below_with : (key : List ℕ) (tag : TagText) (tags : List TagText) → slice_cmp nat_cmp key tag.key ≡ Less → IsBelow key tags → IsBelow key (with_tag tag tags)
below_with key tag [] lt h = (lt, tt)
below_with key tag (t ∷ tags) lt h = by (below_with key tag tags lt h.1) (slice_cmp nat_cmp tag.key t.key) refl
  where
    by : IsBelow key (with_tag tag tags) → (o : Ordering) → slice_cmp nat_cmp tag.key t.key ≡ o → IsBelow key (with_tag tag (t ∷ tags))
    by rest Less e = rw e (lt, h)
    by rest Equal e = rw e h
    by rest Greater e = rw e (h.0, rest)

pub with_rises : (tag : TagText) (tags : List TagText) → KeysRise tags → KeysRise (with_tag tag tags)
unfolding IsStrictlySortedBy
with_rises tag [] h = (tt, tt)
with_rises tag (t ∷ tags) h = by (with_rises tag tags h.1) (slice_cmp nat_cmp tag.key t.key) refl
  where
    by : KeysRise (with_tag tag tags) → (o : Ordering) → slice_cmp nat_cmp tag.key t.key ≡ o → KeysRise (with_tag tag (t ∷ tags))
    by rest Less e = rw e ((e, below_all tag.key t.key tags e h.0), h)
    by rest Equal e = rw e h
    by rest Greater e = rw e (below_with t.key tag tags (above tag.key t.key e) h.0, rest)

pub all_rise : (added tags : List TagText) → KeysRise tags → KeysRise (with_tags added tags)
all_rise [] tags h = h
all_rise (tag ∷ added) tags h = all_rise added (with_tag tag tags) (with_rises tag tags h)
