-- A list of lent texts, put in order with none left twice.
use Rattle.std.proofs.Common.{◌≡◌, ◌↔◌, ℕ, zero, suc, ◌<◌, List, [], ◌∷◌, length, get_or, map, Bool, arith, refl, sym, ap, ◌∙◌, Less, nat_eq}
use Rattle.std.proofs.lemmas.List.{get_or-map, length-map}
use Rattle.std.proofs.lemmas.List.Kept.{Any-dedup, Contains-from_dedup, IsStrictlySortedBy-dedup}
use Rattle.std.proofs.lemmas.List.Sorted.{Contains-permutation, IsPermutation-sym}
use Rattle.std.specs.Borrow.{Bor}
use Rattle.std.specs.Cmp.Lexicographic.{on_texts, on_texts_equal, texts_ties}
use Rattle.std.specs.List.{AllByRecursion, Contains, dedup}
use Rattle.std.specs.List.Sorted.{IsStrictlySortedBy, IsSorted, IsPermutation}
use Rattle.fw_terms.specs.Texts.{IsRising}
use Rattle.fw_allocate.specs.GiftView.{texts}
use Rattle.fw_allocate.proofs.Rising.{order, equal_texts}
use lib.Pointwise.{pointwise}

abbrev pub Lent : Type 0
Lent = Bor (List ℕ)

-- whether two lent texts are equal
abbrev pub same_lent : Lent → Lent → Bool
same_lent s t = pointwise nat_eq s.now t.now

pub Contains-map : {X Y : Type 0} (f : X → Y) (xs : List X) (x : X) → Contains xs x → Contains (map f xs) (f x)
Contains-map f xs x c = (c.0, omega (arith, c.1, length-map xs f), get_or-map f xs c.0 x (f x) c.1 ∙ ap f c.2)

pub Contains-from_map : {X Y : Type 0} (f : X → Y) (xs : List X) (y : Y) → Contains (map f xs) y → (x : X) × Contains xs x × (f x ≡ y)
Contains-from_map f [] y c = absurd (omega (arith, c.1))
Contains-from_map f (x ∷ xs) y c =
    let inside : c.0 < length (x ∷ xs) = omega (arith, c.1, length-map (x ∷ xs) f) in
    (get_or (x ∷ xs) c.0 x, (c.0, inside, same_at (x ∷ xs) c.0 x inside), sym (get_or-map f (x ∷ xs) c.0 x y inside) ∙ c.2)
  where
    same_at : {X : Type 0} (xs : List X) (k : ℕ) (d : X) → k < length xs → get_or xs k (get_or xs k d) ≡ get_or xs k d
    same_at [] k d h = absurd (omega arith)
    same_at (x ∷ xs) zero d h = refl
    same_at (x ∷ xs) (suc k) d h = same_at xs k d (omega arith)

rises_on : (x : Lent) (xs : List Lent) → AllByRecursion (λ y. order x.now y.now ≡ Less) xs → AllByRecursion (λ y. order x.now y ≡ Less) (texts xs)
rises_on x [] h = h
rises_on x (y ∷ ys) h = (h.0, rises_on x ys h.1)

rising_texts : (xs : List Lent) → IsStrictlySortedBy (λ x y. order x.now y.now) xs → IsRising (texts xs)
unfolding IsStrictlySortedBy
rising_texts [] h = h
rising_texts (x ∷ xs) h = (rises_on x xs h.0, rising_texts xs h.1)

pub texts_rise : (xs : List Lent) → IsSorted (λ x y. order x.now y.now) xs → IsRising (texts (dedup same_lent xs))
texts_rise xs sorted = rising_texts (dedup same_lent xs) (IsStrictlySortedBy-dedup (on_texts (λ x. x.now)) (λ x y. texts_ties x.now y.now) xs sorted)

-- the same texts as before
pub texts_stay : (xs ys : List Lent) (g : List ℕ) → IsPermutation xs ys → Contains (texts (dedup same_lent ys)) g ↔ Contains (texts xs) g
texts_stay xs ys g p = (
  λ c.
      let t = Contains-from_map (λ (x : Lent). x.now) (dedup same_lent ys) g c in
      subst_last xs g t.0 t.2 (Contains-permutation ys xs t.0 (IsPermutation-sym xs ys p) (Contains-from_dedup same_lent ys t.0 t.1)),
  λ c.
      let t = Contains-from_map (λ (x : Lent). x.now) xs g c in
      let kept = Any-dedup (on_texts_equal (λ x. x.now)) ys t.0 (Contains-permutation xs ys t.0 p t.1) in
      let alike : t.0.now ≡ kept.1.now = equal_texts t.0.now kept.1.now kept.4 in
      subst_last (dedup same_lent ys) g kept.1 (sym alike ∙ t.2) (kept.0, kept.2, kept.3),
)
  where
    subst_last : (zs : List Lent) (g : List ℕ) (t : Lent) → t.now ≡ g → Contains zs t → Contains (texts zs) g
    subst_last zs g t e c = rw (← e) (Contains-map (λ (x : Lent). x.now) zs t c)
