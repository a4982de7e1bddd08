-- Facts on the places of texts, and on the lists of places that stand for tags.
use Rattle.std.proofs.Common.{◌≡◌, ℕ, zero, suc, ◌-◌, ◌<◌, Bool, true, false, List, [], ◌∷◌, ◌++◌, length, get_or, map, take, drop, refl, sym, ap, ◌∙◌, arith}
use Rattle.std.specs.Prelude.{All}
use Rattle.std.specs.List.{list_any}
use Rattle.std.specs.Str.{bytes_eq}
use Rattle.std.proofs.lemmas.List.{length-map, map_push, map-append}
use Rattle.std.proofs.Math.Seq.{take-length}
use Rattle.std.proofs.lemmas.List.Elements.{All-nil, All-cons, All-head, All-tail, All-append}
use Rattle.fw_charge.specs.Charge.{Charge}
use Rattle.fw_row_table.specs.Names.{Text, place_of, with_text}
use Rattle.fw_row_table.specs.Texts.{with_texts, texts_of_tags}
use Rattle.fw_row_table.specs.Lists.{tag_places, lists_of}
use Rattle.fw_row_table.proofs.TextFacts.{IsKnown, AreKnown, IsKnown-more, IsRowKnown, with_texts-grows, with_texts-append, AreKnown-seen}

pub AreKnown-at : (names ts : List Text) (i : ℕ) → AreKnown names ts → i < length ts → IsKnown names (get_or ts i [])
AreKnown-at names [] i h lt = absurd (omega arith)
AreKnown-at names (t ∷ ts) zero h lt = h.0
AreKnown-at names (t ∷ ts) (suc i) h lt = AreKnown-at names ts i h.1 (omega arith)

-- places are within the names
pub places-within : (names ts : List Text) → AreKnown names ts → All (λ place. place < length names) (map (place_of names) ts)
places-within names [] h = All-nil (λ place. place < length names)
places-within names (t ∷ ts) h = All-cons (λ place. place < length names) (place_of names t) (map (place_of names) ts) h.0.below (places-within names ts h.1)

-- and stay while more texts come
places_stay : (names more ts : List Text) → AreKnown names ts → map (place_of (names ++ more)) ts ≡ map (place_of names) ts
places_stay names more [] h = refl
places_stay names more (t ∷ ts) h = rw ((IsKnown-more names more t h.0).0, places_stay names more ts h.1) refl

pub places_kept : (names ms ts : List Text) → AreKnown names ts → map (place_of (with_texts names ms)) ts ≡ map (place_of names) ts
places_kept names ms ts h = let more = with_texts-grows names ms in rw more.1 (places_stay names more.0 ts h)

-- the names once some texts came behind others, and the places of these texts
pub record AreListed (before names : List Text) (found : List ℕ) (ts : List Text) : Type 0 where
  pub seen : names ≡ with_texts before ts
  pub places : found ≡ map (place_of names) ts

pub listed_none : (names : List Text) → AreListed names names [] []
unfolding with_texts
listed_none names = record { seen = refl; places = refl }

-- one more text
pub listed_more : (before names : List Text) (places : List ℕ) (ts : List Text) → AreListed before names places ts → (now : List Text) (t : Text) (place : ℕ) (more : List ℕ)
    → now ≡ with_text names t → place ≡ place_of now t → more ≡ places ++ place ∷ [] → AreListed before now more (ts ++ t ∷ [])
unfolding with_texts
listed_more before names places ts h now t place more named placed pushed =
    let grown : now ≡ with_texts before (ts ++ t ∷ []) = named ∙ (ap (λ ns. with_text ns t) h.seen ∙ sym (with_texts-append before ts (t ∷ []))) in
    let kept : map (place_of names) ts ≡ map (place_of now) ts =
    (λ j. map (place_of (h.seen j)) ts) ∙ (sym (places_kept (with_texts before ts) (t ∷ []) ts (AreKnown-seen before ts))
    ∙ (λ j. map (place_of (sym (with_texts-append before ts (t ∷ [])) j)) ts) ∙ (λ j. map (place_of (sym grown j)) ts)) in
    record { seen = grown; places = pushed ∙ ((λ j. (h.places ∙ kept) j ++ placed j ∷ []) ∙ sym (map_push (place_of now) ts t)) }

-- what holds of texts holds of the names that they make
module _ (P : Text → Type 0) where
  with_text-all : (names : List Text) (t : Text) → All P names → P t → All P (with_text names t)
  unfolding with_text
  with_text-all names t all p = by (list_any (bytes_eq t) names) refl
    where
      by : (b : Bool) → list_any (bytes_eq t) names ≡ b → All P (with_text names t)
      by true e = rw e all
      by false e = rw e (All-append P names (t ∷ []) all (All-cons P t [] p (All-nil P)))

  pub with_texts-all : (names ts : List Text) → All P names → All P ts → All P (with_texts names ts)
  unfolding with_texts
  with_texts-all names [] all more = all
  with_texts-all names (t ∷ ts) all more = with_texts-all (with_text names t) ts (with_text-all names t all (All-head P t ts more)) (All-tail P t ts more)

-- ---- the lists of rows

pub lists_of-append : (names : List Text) (xs ys : List Charge) → lists_of names (xs ++ ys) ≡ lists_of names xs ++ lists_of names ys
unfolding lists_of
lists_of-append names xs ys = map-append (λ (c : Charge). tag_places names c.tags) xs ys

pub length-lists_of : (names : List Text) (rows : List Charge) → length (lists_of names rows) ≡ length rows
unfolding lists_of
length-lists_of names rows = length-map rows (λ (c : Charge). tag_places names c.tags)

pub lists_kept : (names ms : List Text) (rows : List Charge) → All (IsRowKnown names) rows → lists_of (with_texts names ms) rows ≡ lists_of names rows
unfolding lists_of tag_places
lists_kept names ms [] all = refl
lists_kept names ms (r ∷ rs) all =
    rw (places_kept names ms (texts_of_tags r.tags) (All-head (IsRowKnown names) r rs all).tags, lists_kept names ms rs (All-tail (IsRowKnown names) r rs all)) refl

-- what a slice's pattern leaves behind two items
pub behind_two : (xs : List ℕ) → take (length xs - 2) (drop 2 xs) ≡ drop 2 xs
behind_two [] = refl
behind_two (x ∷ []) = refl
behind_two (x ∷ y ∷ rest) = let e : length (x ∷ y ∷ rest) - 2 ≡ length rest = omega arith in rw e (take-length rest)
