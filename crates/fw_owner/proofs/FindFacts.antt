-- The first element that passes a test, found one by one.
use Rattle.std.proofs.Common.{◌≡◌, ◌∙◌, ℕ, ◌+◌, ◌<◌, Bool, true, false, cond, Some, None, List, [], ◌∷◌, ◌++◌, length, take, drop, get_or, sym, ap}
use Rattle.std.proofs.lemmas.List.{drop_more, take-append-drop}
use Rattle.std.proofs.lemmas.List.Folds.{find-append}
use Rattle.std.specs.List.{find}
use Rattle.std.specs.Option.{option_or}

-- the elements before a place, the one there, and those behind it
split_at : {X : Type 0} → (xs : List X) (i : ℕ) (x : X) → i < length xs → x ≡ get_or xs i x → xs ≡ take i xs ++ x ∷ drop (i + 1) xs
split_at xs i x within is = sym (take-append-drop i xs) ∙ ap (λ l. take i xs ++ l) (drop_more xs i x within ∙ ap (λ y. y ∷ drop (i + 1) xs) (sym is))

-- the first that passes
pub first_at : {X : Type 0} → (p : X → Bool) (xs : List X) (i : ℕ) (x : X) → i < length xs → x ≡ get_or xs i x → find p (take i xs) ≡ None → p x ≡ true → find p xs ≡ Some x
first_at p xs i x within is none here =
    ap (find p) (split_at xs i x within is)
    ∙ find-append p (take i xs) (x ∷ drop (i + 1) xs)
    ∙ ap (λ o. option_or o (find p (x ∷ drop (i + 1) xs))) none
    ∙ ap (λ b. cond b (Some x) (find p (drop (i + 1) xs))) here

-- one more that doesn't
pub none_more : {X : Type 0} → (p : X → Bool) (xs : List X) (x : X) → find p xs ≡ None → p x ≡ false → find p (xs ++ x ∷ []) ≡ None
none_more p xs x none apart =
    find-append p xs (x ∷ [])
    ∙ ap (λ o. option_or o (find p (x ∷ []))) none
    ∙ ap (λ b. cond b (Some x) None) apart
