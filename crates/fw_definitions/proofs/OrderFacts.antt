-- What is put in order is sorted, stable, and the same elements; and one list alone is.
use Rattle.std.proofs.Common.{◌≡◌, ◌+◌, Bool, ℕ, zero, suc, List, [], ◌∷◌, subst, arith, unwrap_or}
use Rattle.std.specs.Cmp.{IsStrictWeakOrder, IsTotalOrder}
use Rattle.std.specs.List.{enumerate_from, filter_map}
use Rattle.std.specs.List.Sorted.{IsPermutation, IsSortedBy}
use Rattle.std.proofs.lemmas.Cmp.{nat_cmp_total, nat_list_cmp_total, on_total, then_total}
use Rattle.std.proofs.lemmas.List.Sorted.{IsPermutation-refl, IsPermutation-trans, IsPermutation-cons, IsPermutation-sym, IsPermutation-middle, ranks_by}
use Rattle.fw_charge.specs.Charge.{Charge}
use Rattle.fw_terms.specs.Commitment.{CommitmentValue}
use Rattle.fw_cover.specs.Order.{insert_by, in_order, kind_rank, compare_commitments, commitment_before, commitments_in_order, has_lower_rate, pair_for, pairs_of_commitment}
use Rattle.fw_cover.proofs.ByRank.{rate_before}
use Rattle.fw_cover.proofs.Sorting.{Rises, in_order_rises, in_order_stable, sorted_in_order, two_ways}
use Rattle.fw_definitions.specs.Orders.{IsOrdered}

insert_permutes : {X : Type 0} (before : X → X → Bool) (x : X) (ys : List X) → IsPermutation (x ∷ ys) (insert_by before x ys)
insert_permutes before x [] = IsPermutation-refl (x ∷ [])
insert_permutes before x (y ∷ ys) = two_ways (before y x)
    (λ holds. rw holds (IsPermutation-trans (x ∷ (y ∷ ys)) (y ∷ (x ∷ ys)) (y ∷ insert_by before x ys)
    (IsPermutation-sym (y ∷ (x ∷ ys)) (x ∷ (y ∷ ys)) (IsPermutation-middle (y ∷ []) x ys))
    (IsPermutation-cons y (x ∷ ys) (insert_by before x ys) (insert_permutes before x ys))))
    (λ fails. rw fails (IsPermutation-refl (x ∷ (y ∷ ys))))

order_permutes : {X : Type 0} (before : X → X → Bool) (xs : List X) → IsPermutation xs (in_order before xs)
order_permutes before [] = IsPermutation-refl []
order_permutes before (x ∷ xs) =
    IsPermutation-trans (x ∷ xs) (x ∷ in_order before xs) (insert_by before x (in_order before xs)) (IsPermutation-cons x xs (in_order before xs) (order_permutes before xs))
    (insert_permutes before x (in_order before xs))

sorted_of : {X : Type 0} (before : X → X → Bool) (xs : List X) → Rises before xs → IsSortedBy before xs
sorted_of before [] rises k d low below = absurd (omega (arith, below))
sorted_of before (x ∷ xs) rises zero d low below = rises.0 0 d (omega (arith, below))
sorted_of before (x ∷ xs) rises (suc k) d low below =
    let e : suc k + 1 ≡ suc (k + 1) = omega arith in
    rw e (sorted_of before xs rises.1 k d (omega arith) (omega (arith, below)))

ordered : {X : Type 0} (before : X → X → Bool) → IsStrictWeakOrder before → (xs : List X) → IsOrdered before xs (in_order before xs)
ordered before o xs = record {
  same = order_permutes before xs;
  sorted = sorted_of before (in_order before xs) (in_order_rises before o xs);
  stable = λ x. in_order_stable before o x xs;
}

commitments_total : IsTotalOrder compare_commitments
unfolding compare_commitments
commitments_total =
    then_total (then_total (on_total (λ x. kind_rank x.1.terms) nat_cmp_total) (on_total (λ x. x.1.start) nat_cmp_total)) (on_total (λ x. x.1.id) nat_list_cmp_total)

commitments_weak : IsStrictWeakOrder commitment_before
commitments_weak = ranks_by commitments_total (λ x. x)

rates_weak : IsStrictWeakOrder has_lower_rate
rates_weak = subst (λ before. IsStrictWeakOrder before) rate_before (ranks_by nat_cmp_total (λ p. unwrap_or p.rate 0))

pub commitments_ordered : (cs : List CommitmentValue) → IsOrdered commitment_before (enumerate_from 0 cs) (commitments_in_order cs)
unfolding commitments_in_order
commitments_ordered cs = ordered commitment_before commitments_weak (enumerate_from 0 cs)

pub commitments_one : (cs : List CommitmentValue) (found : List (ℕ × CommitmentValue)) → IsOrdered commitment_before (enumerate_from 0 cs) found → found ≡ commitments_in_order cs
unfolding commitments_in_order
commitments_one cs found is = sorted_in_order commitment_before commitments_weak (enumerate_from 0 cs) found is.sorted is.stable

pub pairs_ordered : (hour : ℕ) (rows : List Charge) (c : ℕ × CommitmentValue) → IsOrdered has_lower_rate (filter_map (pair_for hour c) (enumerate_from 0 rows)) (pairs_of_commitment hour rows c)
unfolding pairs_of_commitment
pairs_ordered hour rows c = ordered has_lower_rate rates_weak (filter_map (pair_for hour c) (enumerate_from 0 rows))

pub pairs_one : (hour : ℕ) (rows : List Charge) (c : ℕ × CommitmentValue) (found : List _) → IsOrdered has_lower_rate (filter_map (pair_for hour c) (enumerate_from 0 rows)) found
    → found ≡ pairs_of_commitment hour rows c
unfolding pairs_of_commitment
pairs_one hour rows c found is = sorted_in_order has_lower_rate rates_weak (filter_map (pair_for hour c) (enumerate_from 0 rows)) found is.sorted is.stable
