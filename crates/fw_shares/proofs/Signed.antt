-- Shares with a sign.
use Rattle.std.proofs.Common.{◌≡◌, ℕ, suc, ◌+◌, ◌<◌, List, [], ◌∷◌, arith, refl, ◌∙◌, ap, sum, map, ℤ, pos, negsuc, neg_ℤ, fold, ◌+ℤ◌, unsigned_abs, All}
use Rattle.std.proofs.lemmas.List.Sums.{sum_by-cons, get_or-le-sum_by}
use Rattle.std.proofs.lemmas.Int.{ints}
use Rattle.fw_shares.specs.Shares.{IsShares, signed_as}

neg_pos : (a b : ℕ) → neg_ℤ (pos a) +ℤ neg_ℤ (pos b) ≡ neg_ℤ (pos (a + b))
neg_pos a b = omega (arith, ints)

fold_pos : (a : ℕ) (ns : List ℕ) → fold ◌+ℤ◌ (pos a) (map (λ n. pos n) ns) ≡ pos (a + sum ns)
fold_pos a [] = ap pos (omega arith)
fold_pos a (n ∷ ns) = fold_pos (a + n) ns ∙ ap pos (rw (sum_by-cons (λ x. x) n ns) (omega arith))

fold_neg : (a : ℕ) (ns : List ℕ) → fold ◌+ℤ◌ (neg_ℤ (pos a)) (map (λ n. neg_ℤ (pos n)) ns) ≡ neg_ℤ (pos (a + sum ns))
fold_neg a [] = ap (λ x. neg_ℤ (pos x)) (omega arith)
fold_neg a (n ∷ ns) =
    let start : ℤ → ℤ = λ z. fold ◌+ℤ◌ z (map (λ n. neg_ℤ (pos n)) ns) in
    ap start (neg_pos a n) ∙ (fold_neg (a + n) ns ∙ ap (λ x. neg_ℤ (pos x)) (rw (sum_by-cons (λ x. x) n ns) (omega arith)))

map_same : (f g : ℕ → ℤ) → ((n : ℕ) → f n ≡ g n) → (ns : List ℕ) → map f ns ≡ map g ns
map_same f g e [] = refl
map_same f g e (n ∷ ns) = rw (e n, map_same f g e ns) refl

pub signed_sum : (z : ℤ) (ns : List ℕ) → sum ns ≡ unsigned_abs z → fold ◌+ℤ◌ (pos 0) (map (signed_as z) ns) ≡ z
signed_sum (pos m) ns e = rw (map_same (signed_as (pos m)) (λ n. pos n) (λ _. refl) ns) (fold_pos 0 ns ∙ ap pos (omega (arith, e)))
signed_sum (negsuc m) ns e =
    let all : fold ◌+ℤ◌ (pos 0) (map (λ n. neg_ℤ (pos n)) ns) ≡ neg_ℤ (pos (0 + sum ns)) = fold_neg 0 ns in
    rw (map_same (signed_as (negsuc m)) (λ n. neg_ℤ (pos n)) (λ _. refl) ns) (all ∙ (rw (let total : 0 + sum ns ≡ suc m = omega (arith, e) in total) refl))

pub shares_small : (n : ℕ) (ws s : List ℕ) (m : ℕ) → n < m → IsShares n ws s → All (λ x. x < m) s
shares_small n ws s m h a = λ k d l. omega (arith, get_or-le-sum_by (λ x. x) s k d l, a.whole)
