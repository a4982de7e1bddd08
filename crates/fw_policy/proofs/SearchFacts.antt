-- Lists that are searched from the front.
use Rattle.std.proofs.Common.{◌≡◌, ◌<◌, ℕ, zero, suc, List, [], ◌∷◌, length, map, get_or, refl, ◌∙◌, subst, arith}
use Rattle.std.specs.List.{All}
use Rattle.std.proofs.lemmas.List.{get_or_default}

-- what holds of the element at a place holds of what stands there, whatever stands for a place that isn't
pub at_place : {X : Type 0} (P : X → Type 0) (xs : List X) (i : ℕ) (e : X) → i < length xs → e ≡ get_or xs i e → P e → (d : X) → P (get_or xs i d)
at_place P xs i e lt is holds d = subst P (is ∙ get_or_default xs i e d lt) holds

-- P holds of what stands at each place below n
abbrev pub HoldsBelow : {X : Type 0} → (X → Type 0) → List X → ℕ → Type 0
HoldsBelow {X} P xs n = (k : ℕ) → k < n → (d : X) → P (get_or xs k d)

pub all_of : {X Y : Type 0} (P : Y → Type 0) (f : X → Y) (xs : List X) (n : ℕ) → n ≡ length xs → HoldsBelow (λ x. P (f x)) xs n → All P (map f xs)
all_of P f [] n e h k d lt = absurd (omega arith)
all_of P f (x ∷ xs) n e h zero d lt = h 0 (omega arith) x
all_of P f (x ∷ xs) n e h (suc k) d lt = all_of P f xs (length xs) refl (λ j within y. h (suc j) (omega arith) y) k d (omega arith)

pub not_all : {X Y : Type 0} (P : Y → Type 0) (f : X → Y) (xs : List X) (i : ℕ) (d : X) → i < length xs → ¬ P (f (get_or xs i d)) → ¬ All P (map f xs)
not_all P f [] i d lt other all = absurd (omega arith)
not_all P f (x ∷ xs) zero d lt other all = other (all 0 (f x) (omega arith))
not_all P f (x ∷ xs) (suc i) d lt other all = not_all P f xs i d (omega arith) other (λ k e within. all (suc k) e (omega arith))
