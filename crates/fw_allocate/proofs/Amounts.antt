-- The amounts of groups in rising order.
use Rattle.std.proofs.Common.{◌≡◌, ℕ, zero, suc, ◌<◌, ◌≤◌, List, [], ◌∷◌, length, get_or, Bool, true, false, arith, refl, ℤ, pos, cond, bytes_eq, Less, unsigned_abs, All}
use Rattle.std.proofs.lemmas.List.Elements.{All-head, All-tail}
use Rattle.fw_terms.specs.Texts.{IsRising}
use Rattle.fw_allocate.specs.Costs.{amount_of}
use Rattle.fw_allocate.proofs.Rising.{order, same_text, other_text, apart_from_less, all_at, rising_head, rising_tail}

-- the amount at a place is that of the group at the place
pub amount_at : (gs : List (List ℕ)) (amounts : List ℤ) (g : List ℕ) (k : ℕ) (d : List ℕ) → IsRising gs → k < length gs → get_or gs k d ≡ g → amount_of gs amounts g ≡ get_or amounts k (pos 0)
unfolding amount_of
amount_at [] amounts g k d up h is = absurd (omega arith)
amount_at (x ∷ gs) [] g k d up h is = refl
amount_at (x ∷ gs) (a ∷ amounts) g zero d up h is = rw (same_text x g is) refl
amount_at (x ∷ gs) (a ∷ amounts) g (suc k) d up h is =
    let inside : k < length gs = omega arith in
    let less : order x (get_or gs k d) ≡ Less = all_at (λ y. order x y ≡ Less) gs k d (rising_head x gs up) inside in
    let below : order x g ≡ Less = rw is at less in
    rw (other_text x g (apart_from_less x g below)) (amount_at gs amounts g k d (rising_tail x gs up) inside is)

-- a group that isn't there has no amount
pub amount_absent : (gs : List (List ℕ)) (amounts : List ℤ) (g : List ℕ) → ((k : ℕ) → k < length gs → get_or gs k g ≡ g → ⊥) → amount_of gs amounts g ≡ pos 0
unfolding amount_of
amount_absent [] amounts g none = refl
amount_absent (x ∷ gs) [] g none = refl
amount_absent (x ∷ gs) (a ∷ amounts) g none = rw (other_text x g (none 0 (omega arith))) (amount_absent gs amounts g (λ k h. none (suc k) (omega arith)))

-- no amount of a group is greater than the amounts are
pub amount_small : (gs : List (List ℕ)) (amounts : List ℤ) (g : List ℕ) (m : ℕ) → All (λ a. unsigned_abs a ≤ m) amounts → unsigned_abs (amount_of gs amounts g) ≤ m
unfolding amount_of
amount_small [] amounts g m small = omega arith
amount_small (x ∷ gs) [] g m small = omega arith
amount_small (x ∷ gs) (a ∷ amounts) g m small = go (bytes_eq x g) (amount_small gs amounts g m (All-tail (λ a. unsigned_abs a ≤ m) a amounts small))
  where
    go : (b : Bool) → unsigned_abs (amount_of gs amounts g) ≤ m → unsigned_abs (cond b a (amount_of gs amounts g)) ≤ m
    go true rest = All-head (λ a. unsigned_abs a ≤ m) a amounts small
    go false rest = rest
