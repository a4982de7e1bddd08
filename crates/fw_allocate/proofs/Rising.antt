-- Groups in rising order.
use Rattle.std.proofs.Common.{◌≡◌, ℕ, zero, suc, ◌+◌, ◌<◌, List, [], ◌∷◌, length, get_or, map, Bool, true, false, arith, refl, sym, subst, ap, ◌∙◌, Ordering, Less, Equal, Greater, nat_cmp, bytes_eq, ⊎_elim, is_eq}
use Rattle.std.proofs.lemmas.Cmp.{nat_list_cmp_total, tied_itself}
use Rattle.std.proofs.lemmas.Bool.{cases_lt}
use Rattle.std.proofs.lemmas.List.{get_or-map}
use Rattle.std.proofs.lemmas.List.Sorted.{searchable_from_sorted}
use Rattle.std.proofs.lemmas.Map.Text.{is_eq-slice_cmp}
use Rattle.std.proofs.lemmas.Slice.Eq.{bytes_eq-Decides}
use Rattle.std.proofs.lemmas.List.{length-map}
use Rattle.std.specs.Cmp.Lexicographic.{slice_cmp}
use Rattle.std.specs.List.{AllByRecursion}
use Rattle.std.specs.List.Sorted.{IsStrictlySortedBy, IsSortedBy, IsNonDecreasingBy, IsPartitionPoint}
use Rattle.std.specs.Ordering.{ordering_index, ordering_reverse, is_lt}
use Rattle.fw_terms.specs.Texts.{IsRising}

-- the order of two texts
abbrev pub order : List ℕ → List ℕ → Ordering
order = slice_cmp nat_cmp

pub same_text : (g h : List ℕ) → g ≡ h → bytes_eq g h ≡ true
same_text g h e = (bytes_eq-Decides g h).1 e

pub other_text : (g h : List ℕ) → (g ≡ h → ⊥) → bytes_eq g h ≡ false
other_text g h apart = go (bytes_eq g h) refl
  where
    go : (b : Bool) → bytes_eq g h ≡ b → bytes_eq g h ≡ false
    go true e = absurd (apart ((bytes_eq-Decides g h).0 e))
    go false e = e

pub equal_texts : (g h : List ℕ) → bytes_eq g h ≡ true → g ≡ h
equal_texts g h e = (bytes_eq-Decides g h).0 e

pub apart_from_less : (g h : List ℕ) → order g h ≡ Less → g ≡ h → ⊥
apart_from_less g h less e = let tied : order h h ≡ Equal = tied_itself nat_list_cmp_total h in let below : order h h ≡ Less = rw e at less in cc

pub apart_from_greater : (g h : List ℕ) → order g h ≡ Greater → g ≡ h → ⊥
apart_from_greater g h more e = let tied : order h h ≡ Equal = tied_itself nat_list_cmp_total h in let above : order h h ≡ Greater = rw e at more in cc

pub all_at : {X : Type 0} (P : X → Type 0) (xs : List X) (k : ℕ) (d : X) → AllByRecursion P xs → k < length xs → P (get_or xs k d)
all_at P [] k d a h = absurd (omega arith)
all_at P (x ∷ xs) zero d a h = a.0
all_at P (x ∷ xs) (suc k) d a h = all_at P xs k d a.1 (omega arith)

pub rising_head : (g : List ℕ) (gs : List (List ℕ)) → IsRising (g ∷ gs) → AllByRecursion (λ y. order g y ≡ Less) gs
unfolding IsStrictlySortedBy
rising_head g gs up = up.0

pub rising_tail : (g : List ℕ) (gs : List (List ℕ)) → IsRising (g ∷ gs) → IsRising gs
unfolding IsStrictlySortedBy
rising_tail g gs up = up.1

pub rising_next : (gs : List (List ℕ)) (k : ℕ) (d : List ℕ) → IsRising gs → k + 1 < length gs → order (get_or gs k d) (get_or gs (k + 1) d) ≡ Less
rising_next [] k d up h = absurd (omega arith)
rising_next (g ∷ gs) zero d up h = all_at (λ y. order g y ≡ Less) gs 0 d (rising_head g gs up) (omega arith)
rising_next (g ∷ gs) (suc k) d up h =
    let same : suc (k + 1) ≡ suc k + 1 = omega arith in
    subst (λ m. order (get_or gs k d) (get_or (g ∷ gs) m d) ≡ Less) same (rising_next gs k d (rising_tail g gs up) (omega arith))

pub in_order : {X : Type 0} (key : X → List ℕ) (xs : List X) → IsRising (map key xs) → IsSortedBy (λ a b. is_lt (order (key a) (key b))) xs
in_order key xs up = λ k d low h.
    let less : order (get_or (map key xs) k (key d)) (get_or (map key xs) (k + 1) (key d)) ≡ Less = rising_next (map key xs) k (key d) up (omega (arith, length-map xs key)) in
    let one : get_or (map key xs) k (key d) ≡ key (get_or xs k d) = get_or-map key xs k d (key d) (omega arith) in
    let two : get_or (map key xs) (k + 1) (key d) ≡ key (get_or xs (k + 1) d) = get_or-map key xs (k + 1) d (key d) (omega arith) in
    let below : order (key (get_or xs k d)) (key (get_or xs (k + 1) d)) ≡ Less = rw (one, two) at less in
    let above : order (key (get_or xs (k + 1) d)) (key (get_or xs k d)) ≡ Greater = nat_list_cmp_total.antisymm (key (get_or xs (k + 1) d)) (key (get_or xs k d)) ∙ ap ordering_reverse below in
    rw above refl

pub searchable : {X : Type 0} (key : X → List ℕ) (xs : List X) (g : List ℕ) → IsRising (map key xs) → IsNonDecreasingBy (λ y. ordering_index (order (key y) g)) xs
searchable key xs g up = searchable_from_sorted nat_list_cmp_total key xs g (in_order key xs up)

-- where a search finds no place, no element has the key
pub none_at : {X : Type 0} (key : X → List ℕ) (xs : List X) (g : List ℕ) (i : ℕ) → IsPartitionPoint (λ y. order (key y) g ≡ Less) (λ y. order (key y) g ≡ Greater) xs i
    → (k : ℕ) (d : X) → k < length xs → key (get_or xs k d) ≡ g → ⊥
none_at key xs g i point k d h is = ⊎_elim
    (λ low. apart_from_less _ _ (point.0 k d (omega arith) low) is)
    (λ high. apart_from_greater _ _ (point.1 k d high h) is)
    (cases_lt k i)

pub tied_texts : (g h : List ℕ) → order g h ≡ Equal → g ≡ h
tied_texts g h e = equal_texts g h (sym (is_eq-slice_cmp g h) ∙ ap is_eq e)

-- where a search finds no place, no key is the text
pub none_of : {X : Type 0} (key : X → List ℕ) (xs : List X) (g : List ℕ) (i : ℕ) → IsPartitionPoint (λ y. order (key y) g ≡ Less) (λ y. order (key y) g ≡ Greater) xs i
    → (k : ℕ) → k < length (map key xs) → get_or (map key xs) k g ≡ g → ⊥
none_of key [] g i point k h is = absurd (omega arith)
none_of key (x ∷ xs) g i point k h is =
    let inside : k < length (x ∷ xs) = omega (arith, length-map (x ∷ xs) key) in
    none_at key (x ∷ xs) g i point k x inside (sym (get_or-map key (x ∷ xs) k x g inside) ∙ is)
