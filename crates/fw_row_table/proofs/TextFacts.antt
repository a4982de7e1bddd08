-- Facts on the names of texts: each text has its place, and a place stays while more texts come.
use Rattle.std.proofs.Common.{◌≡◌, ◌+◌, ◌<◌, ◌≤◌, Bool, true, false, List, [], ◌∷◌, ◌++◌, length, map, refl, sym, ap, ◌∙◌, arith, append_assoc, length-append, true≢false, subst}
use Rattle.std.specs.Prelude.{All, option_map, option_to_list}
use Rattle.std.specs.List.{list_any, position_or_len, flat_map}
use Rattle.std.specs.Cmp.Lexicographic.{bytes_decides}
use Rattle.fw_row_table.proofs.NameFacts.{place-missing}
use Rattle.std.proofs.lemmas.List.Elements.{All-nil, All-cons}
use Rattle.std.specs.Str.{bytes_eq}
use Rattle.std.proofs.lemmas.List.{append-nil, map_push, map-id}
use Rattle.std.proofs.lemmas.Grind.{fold-append, flat_map-append}
use Rattle.fw_charge.specs.Tags.{TagText}
use Rattle.fw_charge.specs.Charge.{Charge}
use Rattle.fw_row_table.specs.Names.{Text, place_of, with_text}
use Rattle.fw_row_table.specs.Texts.{with_texts, texts_of_tags, texts_of, names_of}
use Rattle.fw_row_table.proofs.NameFacts.{place-there, place-kept, at_its_end}

-- a text is among the names
pub record IsKnown (names : List Text) (text : Text) : Type 0 where
  pub below : place_of names text < length names

-- each of the texts is
abbrev pub AreKnown : List Text → List Text → Type 0
AreKnown names [] = Unit {0}
AreKnown names (t ∷ ts) = IsKnown names t × AreKnown names ts

pub AreKnown-left : (names xs ys : List Text) → AreKnown names (xs ++ ys) → AreKnown names xs
AreKnown-left names [] ys h = tt
AreKnown-left names (x ∷ xs) ys h = (h.0, AreKnown-left names xs ys h.1)

pub AreKnown-right : (names xs ys : List Text) → AreKnown names (xs ++ ys) → AreKnown names ys
AreKnown-right names [] ys h = h
AreKnown-right names (x ∷ xs) ys h = AreKnown-right names xs ys h.1

-- names grow at their end
pub with_text-grows : (names : List Text) (t : Text) → (more : List Text) × (with_text names t ≡ names ++ more)
unfolding with_text
with_text-grows names t = by (list_any (bytes_eq t) names) refl
  where
    by : (b : Bool) → list_any (bytes_eq t) names ≡ b → (more : List Text) × (with_text names t ≡ names ++ more)
    by true e = ([], rw e (sym (append-nil names)))
    by false e = (t ∷ [], rw e refl)

pub with_texts-grows : (names ts : List Text) → (more : List Text) × (with_texts names ts ≡ names ++ more)
unfolding with_texts
with_texts-grows names [] = ([], sym (append-nil names))
with_texts-grows names (t ∷ ts) =
    let one = with_text-grows names t in
    let rest = with_texts-grows (with_text names t) ts in
    (one.0 ++ rest.0, rest.1 ∙ (ap (λ ns. ns ++ rest.0) one.1 ∙ append_assoc names one.0 rest.0))

-- a known text keeps its place
pub IsKnown-more : (names more : List Text) (t : Text) → IsKnown names t → (place_of (names ++ more) t ≡ place_of names t) × IsKnown (names ++ more) t
unfolding place_of
IsKnown-more names more t h =
    let same : place_of (names ++ more) t ≡ place_of names t = place-kept (bytes_eq t) names more h.below in
    (same, record { below = let b : place_of names t < length names = h.below in omega (arith, same, length-append names more) })

-- and adds nothing when it comes again
pub known_adds_nothing : (names : List Text) (t : Text) → IsKnown names t → with_text names t ≡ names
unfolding with_text place_of
known_adds_nothing names t h = by (list_any (bytes_eq t) names) refl
  where
    by : (b : Bool) → list_any (bytes_eq t) names ≡ b → with_text names t ≡ names
    by true e = rw e refl
    by false e = let gone : position_or_len (bytes_eq t) names ≡ length names = place-missing (bytes_eq t) names e in let b : position_or_len (bytes_eq t) names < length names = h.below in absurd (omega arith)

-- a text that was seen is known
pub IsKnown-seen : (names : List Text) (t : Text) → IsKnown (with_text names t) t
unfolding with_text place_of
IsKnown-seen names t = by (list_any (bytes_eq t) names) refl
  where
    by : (b : Bool) → list_any (bytes_eq t) names ≡ b → IsKnown (with_text names t) t
    by true e = rw e (record { below = place-there (bytes_eq t) names e })
    by false e = rw e (record { below = rw (at_its_end names t e, length-append) (omega arith) })

pub AreKnown-seen : (names ts : List Text) → AreKnown (with_texts names ts) ts
unfolding with_texts
AreKnown-seen names [] = tt
AreKnown-seen names (t ∷ ts) =
    let rest = with_texts-grows (with_text names t) ts in
    (rw rest.1 (IsKnown-more (with_text names t) rest.0 t (IsKnown-seen names t)).1, AreKnown-seen (with_text names t) ts)

-- the texts of rows are known to their names
pub names-know : (rows : List Charge) → AreKnown (names_of rows) (flat_map texts_of rows)
unfolding names_of
names-know rows = AreKnown-seen [] (flat_map texts_of rows)

-- the texts of a row are known, field by field
pub record IsRowKnown (names : List Text) (c : Charge) : Type 0 where
  pub discount : AreKnown names (option_to_list (option_map (λ d. d.id) c.discount))
  pub unit : AreKnown names (option_to_list c.unit)
  pub sku : AreKnown names (option_to_list c.sku)
  pub sub_account : AreKnown names (option_to_list c.sub_account)
  pub tags : AreKnown names (texts_of_tags c.tags)

row_known : (names : List Text) (c : Charge) → AreKnown names (texts_of c) → IsRowKnown names c
unfolding texts_of
row_known names c h =
    let after_id = AreKnown-right names (option_to_list (option_map (λ d. d.id) c.discount)) _ h in
    let after_unit = AreKnown-right names (option_to_list c.unit) _ after_id in
    let after_sku = AreKnown-right names (option_to_list c.sku) _ after_unit in
    record {
      discount = AreKnown-left names (option_to_list (option_map (λ d. d.id) c.discount)) _ h;
      unit = AreKnown-left names (option_to_list c.unit) _ after_id;
      sku = AreKnown-left names (option_to_list c.sku) _ after_unit;
      sub_account = AreKnown-left names (option_to_list c.sub_account) (texts_of_tags c.tags) after_sku;
      tags = AreKnown-right names (option_to_list c.sub_account) (texts_of_tags c.tags) after_sku;
    }

rows_known : (names : List Text) (rows : List Charge) → AreKnown names (flat_map texts_of rows) → All (IsRowKnown names) rows
rows_known names [] h = All-nil (IsRowKnown names)
rows_known names (r ∷ rs) h =
    All-cons (IsRowKnown names) r rs (row_known names r (AreKnown-left names (texts_of r) (flat_map texts_of rs) h))
    (rows_known names rs (AreKnown-right names (texts_of r) (flat_map texts_of rs) h))

pub rows-known : (rows : List Charge) → All (IsRowKnown (names_of rows)) rows
rows-known rows = rows_known (names_of rows) rows (names-know rows)

-- texts in turn: one list of them, and another
pub with_texts-append : (names xs ys : List Text) → with_texts names (xs ++ ys) ≡ with_texts (with_texts names xs) ys
unfolding with_texts
with_texts-append names xs ys = fold-append with_text names xs ys

-- a text adds at most one name
pub with_text_adds_one : (names : List Text) (t : Text) → length (with_text names t) ≤ length names + 1
unfolding with_text
with_text_adds_one names t = by (list_any (bytes_eq t) names) refl
  where
    by : (b : Bool) → list_any (bytes_eq t) names ≡ b → length (with_text names t) ≤ length names + 1
    by true e = rw e (omega arith)
    by false e = rw (e, length-append) (omega arith)

-- and takes none away
pub with_text_takes_none : (names : List Text) (t : Text) → length names ≤ length (with_text names t)
with_text_takes_none names t = let grown = with_text-grows names t in rw (grown.1, length-append) (omega arith)

-- one more tag
pub tags_then : (tags : List TagText) (t : TagText) → (texts_of_tags tags ++ t.key ∷ []) ++ t.value ∷ [] ≡ texts_of_tags (tags ++ t ∷ [])
unfolding texts_of_tags
tags_then tags t =
    let texts = λ (t : TagText). t.key ∷ t.value ∷ [] in
    append_assoc (flat_map texts tags) (t.key ∷ []) (t.value ∷ []) ∙ sym (flat_map-append texts tags (t ∷ []))

-- where the images of some texts are known, so is that of a text among them
among_known : (r : Text → Text) (names ms : List Text) (t : Text) → AreKnown names (map r ms) → list_any (bytes_eq t) ms ≡ true → IsKnown names (r t)
among_known r names [] t known h = absurd (true≢false (sym h))
among_known r names (m ∷ ms) t known h = by (bytes_eq t m) refl (among_known r names ms t known.1)
  where
    by : (b : Bool) → bytes_eq t m ≡ b → (list_any (bytes_eq t) ms ≡ true → IsKnown names (r t)) → IsKnown names (r t)
    by true e rest = subst (λ (x : Text). IsKnown names (r x)) (sym ((bytes_decides t m).0 e)) known.0
    by false e rest = rest (rw e at h)

-- to see the images of the names of some texts, and then of one more text
with_text-image : (r : Text → Text) (names ms : List Text) (t : Text) → with_texts names (map r (with_text ms t)) ≡ with_text (with_texts names (map r ms)) (r t)
unfolding with_texts with_text
with_text-image r names ms t =
    by (list_any (bytes_eq t) ms) refl (λ e. known_adds_nothing (with_texts names (map r ms)) (r t) (among_known r (with_texts names (map r ms)) ms t (AreKnown-seen names (map r ms)) e))
    (ap (with_texts names) (map_push r ms t) ∙ with_texts-append names (map r ms) (r t ∷ []))
  where
    by : (b : Bool) → list_any (bytes_eq t) ms ≡ b → (list_any (bytes_eq t) ms ≡ true → with_text (with_texts names (map r ms)) (r t) ≡ with_texts names (map r ms))
        → with_texts names (map r (ms ++ t ∷ [])) ≡ with_texts (with_texts names (map r ms)) (r t ∷ []) → with_texts names (map r (with_text ms t)) ≡ with_text (with_texts names (map r ms)) (r t)
    by true e same new = rw e (sym (same e))
    by false e same new = rw e new

-- to see the images of the names of texts is to see those of the texts
with_texts-image : (r : Text → Text) (names ms ts : List Text) → with_texts names (map r (with_texts ms ts)) ≡ with_texts (with_texts names (map r ms)) (map r ts)
unfolding with_texts
with_texts-image r names ms [] = refl
with_texts-image r names ms (t ∷ ts) = with_texts-image r names (with_text ms t) ts ∙ ap (λ ns. with_texts ns (map r ts)) (with_text-image r names ms t)

pub images_behind : (r : Text → Text) (names ts : List Text) → with_texts names (map r (with_texts [] ts)) ≡ with_texts names (map r ts)
unfolding with_texts
images_behind r names ts = with_texts-image r names [] ts

-- the names of rows and of further rows are those of all
pub names_of-append : (xs ys : List Charge) → with_texts (names_of xs) (names_of ys) ≡ names_of (xs ++ ys)
unfolding names_of
names_of-append xs ys =
    let texts = flat_map texts_of xs in
    let more = flat_map texts_of ys in
    let names = with_texts [] texts in
    (λ j. with_texts names (sym (map-id (with_texts [] more)) j))
    ∙ (images_behind (λ t. t) names more
    ∙ ((λ j. with_texts names (map-id more j))
    ∙ (sym (with_texts-append [] texts more) ∙ ap (with_texts []) (sym (flat_map-append texts_of xs ys)))))
