-- What is done of a text, and what is left.
use Rattle.std.proofs.Common.{◌≡◌, ◌<◌, ◌≤◌, ◌+◌, ◌==◌, ◌∷◌, [], ◌++◌, ℕ, List, true, false, drop, take, length, map, get_or, refl, sym, ap, ◌∙◌, append_assoc, append-nil, inl, inr}
use Rattle.std.proofs.lemmas.Bool.{cases_Bool}
use Rattle.std.proofs.lemmas.List.{at_drop_more, drop_all, drop_more, map-append, take_more, take_all}
use Rattle.fw_dialect.specs.Fields.{all_fit, fits}
use Rattle.fw_dialect.specs.Tags.{ends_line, line_ends}
use Rattle.fw_dialect.specs.Texts.{doubled}

-- what is written of each byte by itself is written of a text
abbrev pub Cuts : (List ℕ → List ℕ) → Type 0
Cuts F = (b : ℕ) (rest : List ℕ) → F (b ∷ rest) ≡ F (b ∷ []) ++ F rest

pub one-more : (F : List ℕ → List ℕ) → Cuts F → (text : List ℕ) (i d : ℕ) (out more whole : List ℕ) → i < length text → out ++ F (drop i text) ≡ whole → more ≡ out ++ F (get_or text i d ∷ [])
    → more ++ F (drop (i + 1) text) ≡ whole
one-more F cuts text i d out more whole lt so is =
    let b = get_or text i d in
    let rest = drop (i + 1) text in
    ap (λ m. m ++ F rest) is ∙ append_assoc out (F (b ∷ [])) (F rest) ∙ ap (λ t. out ++ t) (sym (cuts b rest)) ∙ ap (λ t. out ++ t) (sym (at_drop_more F text i d lt)) ∙ so

pub no-more : (F : List ℕ → List ℕ) → F [] ≡ [] → (text : List ℕ) (i : ℕ) (out whole : List ℕ) → length text ≤ i → out ++ F (drop i text) ≡ whole → out ≡ whole
no-more F none text i out whole few so = sym (append-nil out) ∙ ap (λ t. out ++ t) (sym none) ∙ ap (λ t. out ++ F t) (sym (drop_all i text few)) ∙ so

pub ends-cut : Cuts line_ends
ends-cut b rest = elim (cases_Bool (ends_line b)) [
  | inl e ↦ rw e refl
  | inr e ↦ rw e refl
]

pub doubled-cut : Cuts doubled
doubled-cut b rest = elim (cases_Bool (b == 34)) [
  | inl e ↦ rw e refl
  | inr e ↦ rw e refl
]

pub maps-more : {X Y : Type 0} (f : X → Y) (xs : List X) (i : ℕ) (d : X) (ys more : List Y) → i < length xs → ys ≡ map f (take i xs) → more ≡ ys ++ f (get_or xs i d) ∷ [] → more ≡ map f (take (i + 1) xs)
maps-more f xs i d ys more lt so is =
    is ∙ ap (λ l. l ++ f (get_or xs i d) ∷ []) so ∙ sym (map-append f (take i xs) (get_or xs i d ∷ [])) ∙ sym (ap (map f) (take_more xs i d lt))

pub maps-all : {X Y : Type 0} (f : X → Y) (xs : List X) (i : ℕ) (ys : List Y) → length xs ≤ i → ys ≡ map f (take i xs) → ys ≡ map f xs
maps-all f xs i ys few so = so ∙ ap (map f) (take_all i xs few)

-- ---- a form

pub fits-more : (form text : List ℕ) (i d e : ℕ) → i < length form → i < length text → fits (get_or form i d) (get_or text i e) ≡ true
    → all_fit (drop (i + 1) form) (drop (i + 1) text) ≡ all_fit (drop i form) (drop i text)
fits-more form text i d e lt within fit = rw (drop_more form i d lt, drop_more text i e within, fit) refl

pub fits-not : (form text : List ℕ) (i d e : ℕ) → i < length form → i < length text → fits (get_or form i d) (get_or text i e) ≡ false
    → all_fit (drop i form) (drop i text) ≡ false
fits-not form text i d e lt within fit = rw (drop_more form i d lt, drop_more text i e within, fit) refl

pub fits-all : (form text : List ℕ) (i : ℕ) → length form ≤ i → all_fit (drop i form) (drop i text) ≡ true
fits-all form text i few = rw (drop_all i form few) refl
