-- Places among those that are kept of a list.
use Rattle.std.proofs.Common.{◌≡◌, ◌∙◌, ℕ, zero, suc, ◌+◌, ◌-◌, ◌<◌, ◌≤◌, ◌==◌, Bool, true, false, cond, nat_le, List, [], ◌∷◌, All, map, filter, length, Some, refl, sym, ap, subst, add-one, ⊎_elim, arith}
use Rattle.std.specs.Prelude.{slice_get, slice_index}
use Rattle.std.specs.List.{enumerate_from}
use Rattle.std.proofs.lemmas.Bool.{cases_lt, eq-eqb, eqb-false, eqb-true, ne_eqb}
use Rattle.std.proofs.lemmas.Bool.Decides.{nat_tests}
use Rattle.std.proofs.lemmas.List.{get_or-map}
use Rattle.std.proofs.lemmas.Option.{get_or_from_slice_get, slice_get_within}
use Rattle.fw_shards.proofs.ListFacts.{two_ways}

-- how many places before this one are kept: the place that it has among those that are
abbrev pub rank : (ℕ → Bool) → ℕ → ℕ
rank keep zero = 0
rank keep (suc n) = rank keep n + cond (keep n) 1 0

rank_more : (keep : ℕ → Bool) (n : ℕ) → rank keep (n + 1) ≡ rank keep n + cond (keep n) 1 0
rank_more keep n = ap (rank keep) (add-one n)

rank_le : (keep : ℕ → Bool) (i j : ℕ) → i ≤ j → rank keep i ≤ rank keep j
rank_le keep i zero le = let e : i ≡ 0 = omega arith in let same : rank keep i ≡ 0 = ap (rank keep) e in omega arith
rank_le keep i (suc j) le = two_ways (nat_le i j)
    (λ low. let rest = rank_le keep i j (grind (arith, nat_tests)) in omega arith)
    (λ top.
    let e : i ≡ suc j = grind (arith, nat_tests) in
    let same : rank keep i ≡ rank keep j + cond (keep j) 1 0 = ap (rank keep) e in
    omega arith)

rank_apart : (keep : ℕ → Bool) (i j : ℕ) → keep i ≡ true → i < j → rank keep i < rank keep j
rank_apart keep i j holds less =
    let next : rank keep (suc i) ≡ rank keep i + 1 = ap (λ t. rank keep i + cond t 1 0) holds in
    let rest : rank keep (suc i) ≤ rank keep j = rank_le keep (suc i) j (omega arith) in
    omega arith

-- two places that are kept stay apart
pub rank_same : (keep : ℕ → Bool) (i j : ℕ) → keep i ≡ true → keep j ≡ true → (rank keep i == rank keep j) ≡ (i == j)
rank_same keep i j here there = two_ways (i == j)
    (λ same. eq-eqb (rank keep i) (rank keep j) (ap (rank keep) (eqb-true i j same)) ∙ sym same)
    (λ other.
    ne_eqb (rank keep i) (rank keep j) (λ e. ⊎_elim
    (λ (less : i < j). let apart = rank_apart keep i j here less in omega (arith, e))
    (λ (most : j ≤ i). let more : j < i = omega (arith, eqb-false i j other) in let apart = rank_apart keep j i there more in omega (arith, e))
    (cases_lt i j))
    ∙ sym other)

-- the items at the places that are kept, each beside its place
abbrev pub kept_from : {X : Type 0} → (ℕ → Bool) → ℕ → List X → List (ℕ × X)
kept_from keep n xs = filter (λ x. keep x.0) (enumerate_from n xs)

abbrev pub kept : {X : Type 0} → (ℕ → Bool) → List X → List X
kept keep xs = map (λ x. x.1) (kept_from keep 0 xs)

-- an item beside its place among these
abbrev pub ranked : {X : Type 0} → (ℕ → Bool) → ℕ × X → ℕ × X
ranked keep x = (rank keep x.0, x.1)

ranked_from : {X : Type 0} (keep : ℕ → Bool) (n : ℕ) (xs : List X) → enumerate_from (rank keep n) (map (λ x. x.1) (kept_from keep n xs)) ≡ map (ranked keep) (kept_from keep n xs)
ranked_from keep n [] = refl
ranked_from {X} keep n (x ∷ xs) =
    let rest : List (ℕ × X) = kept_from keep (n + 1) xs in
    let Q : Bool → Type 0 = λ t. enumerate_from (rank keep n) (map (λ z. z.1) (cond t ((n, x) ∷ rest) rest)) ≡ map (ranked keep) (cond t ((n, x) ∷ rest) rest) in
    two_ways (keep n)
    (λ holds.
    let next : rank keep n + 1 ≡ rank keep (n + 1) = sym (rank_more keep n ∙ ap (λ t. rank keep n + cond t 1 0) holds) in
    subst Q (sym holds) (ap (λ l. (rank keep n, x) ∷ l) (ap (λ m. enumerate_from m (map (λ z. z.1) rest)) next ∙ ranked_from keep (n + 1) xs)))
    (λ fails.
    let more = rank_more keep n ∙ ap (λ t. rank keep n + cond t 1 0) fails in
    let next : rank keep n ≡ rank keep (n + 1) = omega arith in
    subst Q (sym fails) (ap (λ m. enumerate_from m (map (λ z. z.1) rest)) next ∙ ranked_from keep (n + 1) xs))

pub ranked_kept : {X : Type 0} (keep : ℕ → Bool) (xs : List X) → enumerate_from 0 (kept keep xs) ≡ map (ranked keep) (kept_from keep 0 xs)
ranked_kept keep xs = ranked_from keep 0 xs

kept_from_at : {X : Type 0} (keep : ℕ → Bool) (n : ℕ) (xs : List X) (i : ℕ) (x : X) → slice_get xs i ≡ Some x → keep (n + i) ≡ true
    → slice_get (map (λ z. z.1) (kept_from keep n xs)) (rank keep (n + i) - rank keep n) ≡ Some x
kept_from_at keep n [] i x at holds = absurd (cc)
kept_from_at {X} keep n (y ∷ xs) zero x at holds =
    let rest : List (ℕ × X) = kept_from keep (n + 1) xs in
    let same : y ≡ x = cc in
    let first : n + 0 ≡ n = omega arith in
    let here : keep n ≡ true = subst (λ k. keep k ≡ true) first holds in
    let still = ap (rank keep) first in
    let gap : rank keep (n + 0) - rank keep n ≡ 0 = omega arith in
    ap (λ t. slice_get (map (λ z. z.1) (cond t ((n, y) ∷ rest) rest)) (rank keep (n + 0) - rank keep n)) here
    ∙ ap (slice_get (y ∷ map (λ z. z.1) rest)) gap ∙ ap Some same
kept_from_at {X} keep n (y ∷ xs) (suc i) x at holds =
    let rest : List (ℕ × X) = kept_from keep (n + 1) xs in
    let moved : n + suc i ≡ (n + 1) + i = omega arith in
    let later = kept_from_at keep (n + 1) xs i x at (subst (λ k. keep k ≡ true) moved holds) in
    let still = ap (rank keep) moved in
    let low = rank_le keep (n + 1) ((n + 1) + i) (omega arith) in
    two_ways (keep n)
    (λ here.
    let next = rank_more keep n ∙ ap (λ t. rank keep n + cond t 1 0) here in
    let gap : rank keep (n + suc i) - rank keep n ≡ suc (rank keep ((n + 1) + i) - rank keep (n + 1)) = omega arith in
    ap (λ t. slice_get (map (λ z. z.1) (cond t ((n, y) ∷ rest) rest)) (rank keep (n + suc i) - rank keep n)) here
    ∙ ap (slice_get (y ∷ map (λ z. z.1) rest)) gap ∙ later)
    (λ out.
    let next = rank_more keep n ∙ ap (λ t. rank keep n + cond t 1 0) out in
    let gap : rank keep (n + suc i) - rank keep n ≡ rank keep ((n + 1) + i) - rank keep (n + 1) = omega arith in
    ap (λ t. slice_get (map (λ z. z.1) (cond t ((n, y) ∷ rest) rest)) (rank keep (n + suc i) - rank keep n)) out
    ∙ ap (slice_get (map (λ z. z.1) rest)) gap ∙ later)

pub kept_at : {X : Type 0} (keep : ℕ → Bool) (xs : List X) (i : ℕ) (x : X) → slice_get xs i ≡ Some x → keep i ≡ true → slice_get (kept keep xs) (rank keep i) ≡ Some x
kept_at keep xs i x at holds =
    let first : 0 + i ≡ i = omega arith in
    let still = ap (rank keep) first in
    let gap : rank keep i ≡ rank keep (0 + i) - rank keep 0 = omega arith in
    ap (slice_get (kept keep xs)) gap ∙ kept_from_at keep 0 xs i x at (subst (λ k. keep k ≡ true) (sym first) holds)

-- a number of the item at a place
pub number_at : {X : Type 0} (f : X → ℕ) (xs : List X) (i : ℕ) (x : X) → slice_get xs i ≡ Some x → slice_index (map f xs) i ≡ f x
number_at f xs i x at = get_or-map f xs i x 0 (slice_get_within xs i x at) ∙ ap f (get_or_from_slice_get xs i x x at)

pub kept_number : {X : Type 0} (f : X → ℕ) (keep : ℕ → Bool) (xs : List X) (i : ℕ) (x : X) → slice_get xs i ≡ Some x → keep i ≡ true → slice_index (map f (kept keep xs)) (rank keep i) ≡ slice_index (map f xs) i
kept_number f keep xs i x at holds = number_at f (kept keep xs) (rank keep i) x (kept_at keep xs i x at holds) ∙ sym (number_at f xs i x at)
