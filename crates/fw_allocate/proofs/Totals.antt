-- What the groups are charged sums to what they cost.
use Rattle.std.proofs.Common.{◌≡◌, ℕ, suc, ◌≤◌, List, [], ◌∷◌, length, map, Bool, true, false, arith, refl, sym, ap, ◌∙◌, ℤ, pos, ◌+ℤ◌, ◌-ℤ◌, fold, cond, bytes_eq}
use Rattle.std.proofs.lemmas.Int.{ints}
use Rattle.std.specs.List.{Contains}
use Rattle.fw_terms.specs.Texts.{IsRising}
use Rattle.fw_allocate.specs.Costs.{amount_of, total}
use Rattle.fw_allocate.proofs.Amounts.{amount_absent}
use Rattle.fw_allocate.proofs.Rising.{same_text, other_text, equal_texts, apart_from_less, rising_tail}
use Rattle.fw_allocate.proofs.Unique.{first_or_later, head_below}

-- ---- sums
shift : (a : ℤ) (xs : List ℤ) → fold ◌+ℤ◌ a xs ≡ a +ℤ total xs
shift a [] = omega (arith, ints)
shift a (x ∷ xs) = let one = shift (a +ℤ x) xs in let two = shift (pos 0 +ℤ x) xs in omega (arith, ints)

pub total_cons : (x : ℤ) (xs : List ℤ) → total (x ∷ xs) ≡ x +ℤ total xs
total_cons x xs = let one = shift (pos 0 +ℤ x) xs in omega (arith, ints)

-- the sum of f over a list
abbrev pub sum_of : {X : Type 0} → (X → ℤ) → List X → ℤ
sum_of f xs = total (map f xs)

sum_zero : {X : Type 0} (f : X → ℤ) (xs : List X) → ((x : X) → f x ≡ pos 0) → sum_of f xs ≡ pos 0
sum_zero f [] e = refl
sum_zero f (x ∷ xs) e = rw (total_cons (f x) (map f xs), e x, sum_zero f xs e) refl

pub sum_same : {X : Type 0} (f g : X → ℤ) (xs : List X) → ((x : X) → f x ≡ g x) → sum_of f xs ≡ sum_of g xs
sum_same f g [] e = refl
sum_same f g (x ∷ xs) e = rw (total_cons (f x) (map f xs), total_cons (g x) (map g xs), e x, sum_same f g xs e) refl

pub sum_add : {X : Type 0} (f g : X → ℤ) (xs : List X) → sum_of (λ x. f x +ℤ g x) xs ≡ sum_of f xs +ℤ sum_of g xs
sum_add f g [] = refl
sum_add f g (x ∷ xs) =
    let rest = sum_add f g xs in
    rw (total_cons (f x +ℤ g x) (map (λ y. f y +ℤ g y) xs), total_cons (f x) (map f xs), total_cons (g x) (map g xs), rest) (omega (arith, ints))

pub sum_sub : {X : Type 0} (f g : X → ℤ) (xs : List X) → sum_of (λ x. f x -ℤ g x) xs ≡ sum_of f xs -ℤ sum_of g xs
sum_sub f g [] = refl
sum_sub f g (x ∷ xs) =
    let rest = sum_sub f g xs in
    rw (total_cons (f x -ℤ g x) (map (λ y. f y -ℤ g y) xs), total_cons (f x) (map f xs), total_cons (g x) (map g xs), rest) (omega (arith, ints))

-- the order of two sums doesn't matter
pub sum_swap : {X Y : Type 0} (f : X → Y → ℤ) (xs : List X) (ys : List Y) → sum_of (λ x. sum_of (f x) ys) xs ≡ sum_of (λ y. sum_of (λ x. f x y) xs) ys
sum_swap f xs [] = sum_zero (λ x. sum_of (f x) []) xs (λ x. refl)
sum_swap f xs (y ∷ ys) =
    sum_same (λ x. sum_of (f x) (y ∷ ys)) (λ x. f x y +ℤ sum_of (f x) ys) xs (λ x. total_cons (f x y) (map (f x) ys))
    ∙ sum_add (λ x. f x y) (λ x. sum_of (f x) ys) xs ∙ ap (λ z. sum_of (λ x. f x y) xs +ℤ z) (sum_swap f xs ys)
    ∙ sym (total_cons (sum_of (λ x. f x y) xs) (map (λ z. sum_of (λ x. f x z) xs) ys))

-- ---- sums over groups
unfoldable pub only : List ℕ → ℤ → List ℕ → ℤ
only k a g = cond (bytes_eq k g) a (pos 0)

only_none : (k : List ℕ) (a : ℤ) (gs : List (List ℕ)) → (Contains gs k → ⊥) → sum_of (only k a) gs ≡ pos 0
unfolding only
only_none k a [] none = refl
only_none k a (g ∷ gs) none =
    rw (total_cons (cond (bytes_eq k g) a (pos 0)) (map (only k a) gs), other_text k g (λ e. none (0, omega arith, sym e)), only_none k a gs (λ c. none (suc c.0, omega (arith, c.1), c.2))) refl

pub only_once : (k : List ℕ) (a : ℤ) (gs : List (List ℕ)) → IsRising gs → Contains gs k → sum_of (only k a) gs ≡ a
unfolding only
only_once k a [] up c = absurd (omega (arith, c.1))
only_once k a (g ∷ gs) up c =
    first_or_later g k gs c
    (λ e. rw (total_cons (cond (bytes_eq k g) a (pos 0)) (map (only k a) gs), same_text k g (sym e), only_none k a gs (λ d. apart_from_less g k (head_below g k gs up d) e)) (omega (arith, ints)))
    (λ d. rw (total_cons (cond (bytes_eq k g) a (pos 0)) (map (only k a) gs), other_text k g (λ e. apart_from_less g k (head_below g k gs up d) (sym e)), only_once k a gs (rising_tail g gs up) d) (omega (arith, ints)))

-- the amount of a group is that of the first one, or of one of the others
amount_split : (k : List ℕ) (ks : List (List ℕ)) (a : ℤ) (amounts : List ℤ) → IsRising (k ∷ ks) → (g : List ℕ) → amount_of (k ∷ ks) (a ∷ amounts) g ≡ only k a g +ℤ amount_of ks amounts g
unfolding amount_of only
amount_split k ks a amounts up g = go (bytes_eq k g) refl
  where
    go : (b : Bool) → bytes_eq k g ≡ b → cond b a (amount_of ks amounts g) ≡ cond b a (pos 0) +ℤ amount_of ks amounts g
    go true e =
        rw (amount_absent ks amounts g (λ i h is. apart_from_less k g (head_below k g ks up (i, h, is)) (equal_texts k g e))) (omega (arith, ints))
    go false e = omega (arith, ints)

-- amounts of groups that are all there sum to their total
pub amounts_sum : (gs ks : List (List ℕ)) (amounts : List ℤ) → IsRising gs → IsRising ks → ((g : List ℕ) → Contains ks g → Contains gs g) → length amounts ≤ length ks → sum_of (amount_of ks amounts) gs ≡ total amounts
unfolding amount_of
amounts_sum gs [] [] up vp there short = sum_zero (amount_of [] []) gs (λ g. refl)
amounts_sum gs [] (a ∷ amounts) up vp there short = absurd (omega arith)
amounts_sum gs (k ∷ ks) [] up vp there short = sum_zero (amount_of (k ∷ ks) []) gs (λ g. refl)
amounts_sum gs (k ∷ ks) (a ∷ amounts) up vp there short =
    sum_same (amount_of (k ∷ ks) (a ∷ amounts)) (λ g. only k a g +ℤ amount_of ks amounts g) gs (amount_split k ks a amounts vp)
    ∙ sum_add (only k a) (amount_of ks amounts) gs
    ∙ ap (λ z. z +ℤ sum_of (amount_of ks amounts) gs) (only_once k a gs up (there k (0, omega arith, refl)))
    ∙ ap (λ z. a +ℤ z) (amounts_sum gs ks amounts up (rising_tail k ks vp) (λ g c. there g (suc c.0, omega (arith, c.1), c.2)) (omega arith))
    ∙ sym (total_cons a amounts)
