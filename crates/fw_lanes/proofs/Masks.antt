-- Masks, one place further.
use Rattle.std.proofs.Common.{◌≡◌, ℕ, zero, suc, ◌+◌, ◌<◌, List, [], ◌∷◌, ◌++◌, length, take, get_or, ap, refl, arith}
use Rattle.std.specs.Simd.Lanes.{zip2}

longer : {X Y Z : Type 0} (f : X → Y → Z) (xs : List X) (ys : List Y) (i : ℕ) (c : X) (d : Y) → i < length xs → i < length ys
    → zip2 f (take (suc i) xs) (take (suc i) ys) ≡ zip2 f (take i xs) (take i ys) ++ f (get_or xs i c) (get_or ys i d) ∷ []
longer f [] ys i c d h k = absurd (omega arith)
longer f (x ∷ xs) [] i c d h k = absurd (omega arith)
longer f (x ∷ xs) (y ∷ ys) zero c d h k = refl
longer f (x ∷ xs) (y ∷ ys) (suc i) c d h k = ap (λ l. f x y ∷ l) (longer f xs ys i c d (omega arith) (omega arith))

pub zip2_more : {X Y Z : Type 0} (f : X → Y → Z) (xs : List X) (ys : List Y) (i : ℕ) (c : X) (d : Y) → i < length xs → i < length ys
    → zip2 f (take (i + 1) xs) (take (i + 1) ys) ≡ zip2 f (take i xs) (take i ys) ++ f (get_or xs i c) (get_or ys i d) ∷ []
zip2_more f xs ys i c d h k = let next : i + 1 ≡ suc i = omega arith in rw next (longer f xs ys i c d h k)
