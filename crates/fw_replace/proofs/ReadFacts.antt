-- The rows of a post, read one after the other.
use Rattle.std.proofs.Common.{◌≡◌, ◌∙◌, ◌+◌, ◌-◌, ◌≤◌, ◌++◌, ◌∷◌, [], ℕ, List, length, min, get_or, take, drop, sym, ap, arith}
use Rattle.std.specs.Prelude.{Some, slice_get}
use Rattle.std.proofs.lemmas.List.{drop_min, get_or-drop, length-drop, length-take-le, take_min, take_more}
use Rattle.std.proofs.lemmas.Option.{get_or_from_slice_get, slice_get_within}

-- one item more of those from a place on
pub next_item : {A : Type 0} (all : List A) (first place : ℕ) (x : A) → first ≤ place → slice_get all place ≡ Some x
    → take (place + 1 - first) (drop first all) ≡ take (place - first) (drop first all) ++ x ∷ []
next_item all first place x from there =
    let within = slice_get_within all place x there in
    let long = length-drop first all in
    let count : place + 1 - first ≡ place - first + 1 = omega arith in
    let at : first + (place - first) ≡ place = omega arith in
    ap (λ n. take n (drop first all)) count
    ∙ take_more (drop first all) (place - first) x (omega arith)
    ∙ ap (λ y. take (place - first) (drop first all) ++ y ∷ [])
    (get_or-drop first all (place - first) x ∙ ap (λ n. get_or all n x) at ∙ get_or_from_slice_get all place x x there)

-- none of them
pub no_items : {A : Type 0} (all : List A) (first : ℕ) → take (first - first) (drop first all) ≡ []
no_items all first = let none : first - first ≡ 0 = omega arith in ap (λ n. take n (drop first all)) none

-- as many as there are
pub in_range : {A : Type 0} (all : List A) (start count first behind : ℕ) → first ≡ min start (length all) → behind ≡ first + min count (length all - first)
    → take (behind - first) (drop first all) ≡ take count (drop start all)
in_range all start count first behind begins ends =
    let long : length (drop first all) ≡ length all - first = length-drop first all in
    let many : behind - first ≡ min count (length all - first) = omega (arith, ends) in
    ap (λ n. take n (drop first all)) (many ∙ ap (min count) (sym long))
    ∙ take_min count (drop first all)
    ∙ ap (λ n. take count (drop n all)) begins
    ∙ ap (take count) (drop_min start all)

-- as many rows as there are places
pub counted : {A : Type 0} (all : List A) (first behind : ℕ) → behind ≤ length all → length (take (behind - first) (drop first all)) ≡ behind - first
counted all first behind within = let long = length-drop first all in length-take-le (behind - first) (drop first all) (omega arith)
