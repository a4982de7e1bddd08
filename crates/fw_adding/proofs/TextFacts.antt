-- Lists of texts that agree so far.
use Rattle.std.proofs.Common.{◌≡◌, ◌+◌, ◌<◌, ℕ, zero, suc, List, [], ◌∷◌, length, map, take, slice_index_or, String, Global, string_bytes, Bool, true, false, ap, ◌∙◌, refl, arith}
use Rattle.std.specs.Prelude.{not}
use Rattle.std.specs.Str.{bytes_eq}
use native.Mathlib.Numerals.{unary_clauses}
use Rattle.std.proofs.lemmas.Slice.Eq.{bytes_eq-Decides}

-- one more text that is the same
pub one_more : (xs ys : List (String Global)) (i : ℕ) (x y : String Global) → i < length xs → i < length ys
    → x ≡ slice_index_or xs i x → y ≡ slice_index_or ys i y → string_bytes x ≡ string_bytes y
    → map string_bytes (take i xs) ≡ map string_bytes (take i ys)
    → map string_bytes (take (i + 1) xs) ≡ map string_bytes (take (i + 1) ys)
one_more [] ys i x y within also here there same before = absurd (omega arith)
one_more (a ∷ xs) [] i x y within also here there same before = absurd (omega arith)
one_more (a ∷ xs) (b ∷ ys) zero x y within also here there same before =
    let first : string_bytes a ≡ string_bytes b = cc in ap (λ t. t ∷ []) first
one_more (a ∷ xs) (b ∷ ys) (suc i) x y within also here there same before =
    let first : string_bytes a ≡ string_bytes b = cc in
    let rest : map string_bytes (take i xs) ≡ map string_bytes (take i ys) = cc in
    let more = one_more xs ys i x y (omega arith) (omega arith) here there same rest in
    let next = simp unary_clauses at more in
    simp unary_clauses (ap (λ t. t ∷ map string_bytes (take (suc i) xs)) first ∙ ap (λ t. string_bytes b ∷ t) next)

-- lists that agree have the same text at each place
pub same_at : (xs ys : List (String Global)) (i : ℕ) (x y : String Global) → i < length xs → i < length ys
    → x ≡ slice_index_or xs i x → y ≡ slice_index_or ys i y → map string_bytes xs ≡ map string_bytes ys
    → string_bytes x ≡ string_bytes y
same_at [] ys i x y within also here there same = absurd (omega arith)
same_at (a ∷ xs) [] i x y within also here there same = absurd (omega arith)
same_at (a ∷ xs) (b ∷ ys) zero x y within also here there same = cc
same_at (a ∷ xs) (b ∷ ys) (suc i) x y within also here there same =
    let rest : map string_bytes xs ≡ map string_bytes ys = cc in
    same_at xs ys i x y (omega arith) (omega arith) here there rest

was_true : (r b : Bool) → r ≡ not b → r ≡ false → b ≡ true
was_true r true is no_ = refl
was_true r false is no_ = absurd (cc)

was_false : (r b : Bool) → r ≡ not b → r ≡ true → b ≡ false
was_false r true is holds = absurd (cc)
was_false r false is holds = refl

-- texts that don't differ are the same
pub not_different : (a b : List ℕ) (r : Bool) → r ≡ not (bytes_eq a b) → r ≡ false → a ≡ b
not_different a b r is no_ = (bytes_eq-Decides a b).0 (was_true r (bytes_eq a b) is no_)

pub different : (a b : List ℕ) (r : Bool) → r ≡ not (bytes_eq a b) → r ≡ true → ¬ (a ≡ b)
different a b r is holds same =
    let found = (bytes_eq-Decides a b).1 same in
    let lost = was_false r (bytes_eq a b) is holds in
    absurd (cc)
