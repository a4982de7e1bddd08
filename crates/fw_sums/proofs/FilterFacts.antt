-- Lists that tests divide.
use Rattle.std.proofs.Common.{◌≡◌, ◌∙◌, Bool, true, false, List, [], ◌∷◌, ◌++◌, filter}
use Rattle.std.specs.List.Sorted.{IsPermutation}
use Rattle.std.proofs.lemmas.List.Sorted.{IsPermutation-cons, IsPermutation-middle, IsPermutation-refl, IsPermutation-trans}
use Rattle.fw_cover.proofs.Sorting.{two_ways}

-- those that pass either of two tests, which none passes both of
pub either_passes : {X : Type 0} (p q r : X → Bool) → ((x : X) → p x ≡ true → (q x ≡ false) × (r x ≡ true)) → ((x : X) → p x ≡ false → r x ≡ q x) → (xs : List X) → IsPermutation (filter p xs ++ filter q xs) (filter r xs)
either_passes p q r one other [] = IsPermutation-refl []
either_passes {X} p q r one other (x ∷ xs) =
    let rest : IsPermutation (filter p xs ++ filter q xs) (filter r xs) = either_passes p q r one other xs in
    two_ways (p x)
    (λ first. let known = one x first in rw (first, known.0, known.1) (IsPermutation-cons x (filter p xs ++ filter q xs) (filter r xs) rest))
    (λ no. two_ways (q x)
    (λ second. let third : r x ≡ true = other x no ∙ second in
    rw (no, second, third)
    (IsPermutation-trans (filter p xs ++ x ∷ filter q xs) (x ∷ (filter p xs ++ filter q xs)) (x ∷ filter r xs)
    (IsPermutation-middle (filter p xs) x (filter q xs)) (IsPermutation-cons x (filter p xs ++ filter q xs) (filter r xs) rest)))
    (λ nor. let third : r x ≡ false = other x no ∙ nor in rw (no, nor, third) rest))
