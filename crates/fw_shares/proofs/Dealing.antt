-- The loop that deals out the shares, and why what it deals are the shares by largest remainder.
use Rattle.std.proofs.Common.{◌≡◌, ℕ, zero, suc, ◌+◌, ◌-◌, ◌*◌, ◌/◌, ◌%◌, ◌<◌, ◌≤◌, ◌⊎◌, inl, inr, ⊎_elim, List, [], ◌∷◌, ◌++◌, length, get_or, take, map, nat_lt, Bool, true, false, ◌&&◌, arith, refl, sym, subst, ◌∙◌, ap, cond, count_by, sum, sum_by}
use Rattle.std.proofs.Math.Nat.{div-add-mod, mod-lt, lt_of_mul-lt-mul_left, le_of_mul-le-mul_left}
use Rattle.std.proofs.Math.ListN.{get_or-append}
use Rattle.std.proofs.Math.Seq.{get_or-append_seam}
use Rattle.std.proofs.lemmas.Bool.Decides.{nat_tests}
use Rattle.std.proofs.lemmas.Grind.{common_steps}
use Rattle.std.proofs.lemmas.Bool.{ltb-true, ltb-false, eqb-true, cases_lt, eq-eqb, lt-ltb}
use Rattle.std.proofs.lemmas.List.Sums.{sum-map, sum_by_more, sum_by_push, sum_by-cons}
use Rattle.std.specs.List.Sorted.{IsPermutation}
use Rattle.std.proofs.lemmas.List.Sorted.{sum_by-IsPermutation}
use Rattle.fw_shares.specs.Shares.{IsShares, IsPlain, IsRaised}
use Rattle.fw_shares.specs.Dealing.{is_above, is_tie, is_early, extra_at, cut_unit, IsDealt}
use Rattle.fw_shares.specs.declared.hamilton.Cut.{Cut}

-- what stands dealt when i weights were read
pub record DealtTo (n whole : ℕ) (ws : List ℕ) (cut : Cut) (i : ℕ) (s : List ℕ) (left : ℕ) : Type 0 where
  pub one_each : length s ≡ i
  pub each : (k : ℕ) → k < i → get_or s k 0 ≡ n * get_or ws k 0 / whole + extra_at n whole ws cut k
  pub left_is : left ≡ cut.ties - count_by (is_tie n whole cut) (take i ws)
  pub total : sum s + left ≡ sum_by (λ w. n * w / whole) (take i ws) + count_by (is_above n whole cut) (take i ws) + cut.ties

some_ties : (m u : ℕ) → u ≡ cut_unit false true (nat_lt 0 (suc m)) → u ≡ 1
some_ties m u e = e ∙ (rw (lt-ltb 0 (suc m) (omega arith)) refl)

-- a unit more, and the ties that are left, add up
unit_left : (above tie : Bool) (left left' u : ℕ) → (above && tie) ≡ false → u ≡ cut_unit above tie (nat_lt 0 left) → left' ≡ left - cond tie 1 0 → u + left' ≡ cond above 1 0 + left
unit_left true true left left' u never eu el = cc
unit_left true false left left' u never eu el = omega arith
unit_left false true zero left' u never eu el = omega arith
unit_left false true (suc m) left' u never eu el = omega (arith, some_ties m u eu)
unit_left false false left left' u never eu el = omega arith

not_both : (n whole : ℕ) (cut : Cut) (w : ℕ) → (is_above n whole cut w && is_tie n whole cut w) ≡ false
not_both n whole cut w = grind (arith, nat_tests)

early_is : (c t : ℕ) → nat_lt 0 (t - c) ≡ nat_lt c t
early_is c t = grind (arith, common_steps)

pub dealt_more : (n whole : ℕ) (ws : List ℕ) (cut : Cut) (i : ℕ) (s : List ℕ) (left w u left' : ℕ) → i < length ws → w ≡ get_or ws i 0 → DealtTo n whole ws cut i s left → u ≡ cut_unit (is_above n whole cut w) (is_tie n whole cut w) (nat_lt 0 left) → left' ≡ left - cond (is_tie n whole cut w) 1 0 → DealtTo n whole ws cut (i + 1) (s ++ (n * w / whole + u) ∷ []) left'
dealt_more n whole ws cut i s left w u left' h e d eu el =
    let one : length s ≡ i = d.one_each in
    let floors : sum_by (λ w. n * w / whole) (take (i + 1) ws) ≡ sum_by (λ w. n * w / whole) (take i ws) + n * w / whole = rw e (sum_by_more (λ w. n * w / whole) ws i 0 h) in
    let aboves : count_by (is_above n whole cut) (take (i + 1) ws) ≡ count_by (is_above n whole cut) (take i ws) + cond (is_above n whole cut w) 1 0 = rw e (sum_by_more (λ w. cond (is_above n whole cut w) 1 0) ws i 0 h) in
    let ties : count_by (is_tie n whole cut) (take (i + 1) ws) ≡ count_by (is_tie n whole cut) (take i ws) + cond (is_tie n whole cut w) 1 0 = rw e (sum_by_more (λ w. cond (is_tie n whole cut w) 1 0) ws i 0 h) in
    let units : u + left' ≡ cond (is_above n whole cut w) 1 0 + left = unit_left (is_above n whole cut w) (is_tie n whole cut w) left left' u (not_both n whole cut w) eu el in
    let early : nat_lt 0 left ≡ is_early n whole ws cut i = rw d.left_is (early_is _ cut.ties) in
    let unit : u ≡ extra_at n whole ws cut i = eu ∙ (rw (early, e) refl) in
    record {
      one_each = grind (arith, common_steps);
      each = λ k l. ⊎_elim
          (λ lt. let inside : k < length s = omega arith in rw (get_or-append s ((n * w / whole + u) ∷ []) 0 k inside) (d.each k lt))
          (λ ge. let same : k ≡ i = omega arith in
          let seam : get_or (s ++ (n * w / whole + u) ∷ []) i 0 ≡ n * w / whole + u = rw (sym one) (get_or-append_seam s (n * w / whole + u) [] 0) in
          rw same (seam ∙ (rw (unit, e) refl)))
          (cases_lt k i);
      left_is = omega (arith, d.left_is, ties, el);
      total = rw (sum_by_push (λ x. x) s (n * w / whole + u)) (omega (arith, floors, aboves, units, d.total));
    }

some_weight : (ws : List ℕ) → 0 < sum ws → 0 < length ws
some_weight [] h = h
some_weight (w ∷ ws) h = omega arith

-- the floors and the remainders make the whole product
pub floors_and_rests : (n whole : ℕ) (ws : List ℕ) → whole * sum_by (λ w. n * w / whole) ws + sum_by (λ w. n * w % whole) ws ≡ n * sum ws
floors_and_rests n whole [] = omega arith
floors_and_rests n whole (w ∷ ws) =
    rw (sum_by-cons (λ w. n * w / whole) w ws, sum_by-cons (λ w. n * w % whole) w ws, sum_by-cons (λ w. w) w ws)
    (omega (arith, floors_and_rests n whole ws, div-add-mod (n * w) whole))

rests_below : (n whole : ℕ) (ws : List ℕ) → 0 < whole → 0 < length ws → sum_by (λ w. n * w % whole) ws < length ws * whole
rests_below n whole [] pos some = absurd (omega arith)
rests_below n whole (w ∷ []) pos some = rw (sum_by-cons (λ w. n * w % whole) w []) (omega (arith, mod-lt (n * w) pos))
rests_below n whole (w ∷ v ∷ ws) pos some =
    rw (sum_by-cons (λ w. n * w % whole) w (v ∷ ws)) (omega (arith, mod-lt (n * w) pos, rests_below n whole (v ∷ ws) pos (omega arith)))

pub floors_le : (n whole : ℕ) (ws : List ℕ) → whole ≡ sum ws → 0 < whole → sum_by (λ w. n * w / whole) ws ≤ n
floors_le n whole ws e pos =
    let both : whole * sum_by (λ w. n * w / whole) ws + sum_by (λ w. n * w % whole) ws ≡ whole * n = floors_and_rests n whole ws ∙ (rw (sym e) (omega arith)) in
    le_of_mul-le-mul_left (omega (arith, both)) pos

-- what the floors give away together
pub given_is : (n whole : ℕ) (ws xs ys : List ℕ) (g : ℕ) → g ≡ sum ys → ys ≡ xs → xs ≡ map (λ w. n * w / whole) ws → g ≡ sum_by (λ w. n * w / whole) ws
given_is n whole ws xs ys g e same floors = e ∙ (ap sum (same ∙ floors) ∙ sum-map (λ w. n * w / whole) ws)

pub extra_below : (n whole : ℕ) (ws : List ℕ) → whole ≡ sum ws → 0 < whole → n - sum_by (λ w. n * w / whole) ws < length ws
extra_below n whole ws e pos =
    let both : whole * sum_by (λ w. n * w / whole) ws + sum_by (λ w. n * w % whole) ws ≡ whole * n = floors_and_rests n whole ws ∙ (rw (sym e) (omega arith)) in
    let some : 0 < length ws = some_weight ws (omega arith) in
    let below : sum_by (λ w. n * w % whole) ws < length ws * whole = rests_below n whole ws pos some in
    let goal' : n < sum_by (λ w. n * w / whole) ws + length ws = lt_of_mul-lt-mul_left whole (omega (arith, both, below)) in
    omega (arith, goal', some)

-- ---- what a cut deals are the shares
sum_by-take-mono : (f : ℕ → ℕ) (ws : List ℕ) (j i : ℕ) → j ≤ i → sum_by f (take j ws) ≤ sum_by f (take i ws)
sum_by-take-mono f ws zero i h = omega arith
sum_by-take-mono f [] (suc j) zero h = omega arith
sum_by-take-mono f [] (suc j) (suc i) h = omega arith
sum_by-take-mono f (w ∷ ws) (suc j) zero h = absurd (omega arith)
sum_by-take-mono f (w ∷ ws) (suc j) (suc i) h =
    rw (sum_by-cons f w (take j ws), sum_by-cons f w (take i ws)) (omega (arith, sum_by-take-mono f ws j i (omega arith)))

unit_given : (above tie early : Bool) → cut_unit above tie early ≡ 1 → (above ≡ true) ⊎ ((tie ≡ true) × (early ≡ true))
unit_given true tie early e = inl refl
unit_given false true true e = inr (refl, refl)
unit_given false true false e = absurd (omega arith)
unit_given false false early e = absurd (omega arith)

unit_kept : (above tie early : Bool) → cut_unit above tie early ≡ 0 → (above ≡ false) × ((tie ≡ true) → early ≡ false)
unit_kept true tie early e = absurd (omega arith)
unit_kept false true true e = absurd (omega arith)
unit_kept false true false e = (refl, λ _. refl)
unit_kept false false early e = (refl, λ h. cc)

unit_small : (above tie early : Bool) → (cut_unit above tie early ≡ 0) ⊎ (cut_unit above tie early ≡ 1)
unit_small true tie early = inr refl
unit_small false true true = inr refl
unit_small false true false = inl refl
unit_small false false early = inl refl

-- what a raised place and a plain one know of the cut
record Raised (n whole : ℕ) (ws : List ℕ) (cut : Cut) (i : ℕ) : Type 0 where
  high : cut.at ≤ n * get_or ws i 0 % whole
  early : n * get_or ws i 0 % whole ≡ cut.at → count_by (is_tie n whole cut) (take i ws) < cut.ties

record Plain (n whole : ℕ) (ws : List ℕ) (cut : Cut) (j : ℕ) : Type 0 where
  low : n * get_or ws j 0 % whole ≤ cut.at
  late : n * get_or ws j 0 % whole ≡ cut.at → cut.ties ≤ count_by (is_tie n whole cut) (take j ws)

raised_at : (n whole : ℕ) (ws : List ℕ) (cut : Cut) (i : ℕ) → extra_at n whole ws cut i ≡ 1 → Raised n whole ws cut i
raised_at n whole ws cut i e = ⊎_elim
    (λ a. let h : cut.at < n * get_or ws i 0 % whole = ltb-true _ _ a in record { high = omega arith; early = λ t. absurd (omega arith) })
    (λ t. let same : n * get_or ws i 0 % whole ≡ cut.at = eqb-true _ _ t.0 in
    let before : count_by (is_tie n whole cut) (take i ws) < cut.ties = ltb-true _ _ t.1 in record { high = omega arith; early = λ _. before })
    (unit_given (is_above n whole cut (get_or ws i 0)) (is_tie n whole cut (get_or ws i 0)) (is_early n whole ws cut i) e)

plain_at : (n whole : ℕ) (ws : List ℕ) (cut : Cut) (j : ℕ) → extra_at n whole ws cut j ≡ 0 → Plain n whole ws cut j
plain_at n whole ws cut j e =
    let kept : (is_above n whole cut (get_or ws j 0) ≡ false) × ((is_tie n whole cut (get_or ws j 0) ≡ true) → is_early n whole ws cut j ≡ false) =
    unit_kept (is_above n whole cut (get_or ws j 0)) (is_tie n whole cut (get_or ws j 0)) (is_early n whole ws cut j) e in
    record { low = ltb-false _ _ kept.0; late = λ t. ltb-false _ _ (kept.1 (eq-eqb _ _ t)) }

shares_over_sum : (n : ℕ) (ws : List ℕ) (cut : Cut) (s : List ℕ) → sum_by (λ w. n * w / sum ws) ws + count_by (is_above n (sum ws) cut) ws + cut.ties ≡ n → IsDealt n (sum ws) ws cut s → IsShares n ws s
shares_over_sum n ws cut s all d =
    let raised : (i : ℕ) → i < length ws → IsRaised n ws s i → Raised n (sum ws) ws cut i = λ i h r. raised_at n (sum ws) ws cut i (omega (arith, d.each i h, r)) in
    let plain : (j : ℕ) → j < length ws → IsPlain n ws s j → Plain n (sum ws) ws cut j = λ j h p. plain_at n (sum ws) ws cut j (omega (arith, d.each j h, p)) in
    record {
      one_each = d.one_each;
      near = λ i h. ⊎_elim (λ z. inl (omega (arith, d.each i h, z))) (λ o. inr (omega (arith, d.each i h, o)))
          (unit_small (is_above n (sum ws) cut (get_or ws i 0)) (is_tie n (sum ws) cut (get_or ws i 0)) (is_early n (sum ws) ws cut i));
      whole = d.total ∙ all;
      largest = λ i j hi hj r p. omega (arith, (raised i hi r).high, (plain j hj p).low);
      ties = λ i j hi hj r p e. ⊎_elim
          (λ before. absurd (omega (
            arith,
            (raised i hi r).early (omega (arith, (raised i hi r).high, (plain j hj p).low, e)),
            (plain j hj p).late (omega (arith, (raised i hi r).high, (plain j hj p).low, e)),
            sum_by-take-mono (λ w. cond (is_tie n (sum ws) cut w) 1 0) ws j i (omega arith),
          )))
          (λ h. h)
          (cases_lt j i);
    }

pub shares_from_dealt : (n whole : ℕ) (ws : List ℕ) (cut : Cut) (s : List ℕ) → whole ≡ sum ws → sum_by (λ w. n * w / whole) ws + count_by (is_above n whole cut) ws + cut.ties ≡ n → IsDealt n whole ws cut s → IsShares n ws s
shares_from_dealt n whole ws cut s e all d =
    let P : ℕ → Type 0 = λ x. sum_by (λ w. n * w / x) ws + count_by (is_above n x cut) ws + cut.ties ≡ n in
    let Q : ℕ → Type 0 = λ x. IsDealt n x ws cut s in
    shares_over_sum n ws cut s (subst P e all) (subst Q e d)

-- a count over the remainders in order is that over the weights
count_by-map : (p : ℕ → Bool) (f : ℕ → ℕ) (ws : List ℕ) → count_by p (map f ws) ≡ count_by (λ w. p (f w)) ws
count_by-map p f [] = refl
count_by-map p f (w ∷ ws) =
    rw (sum_by-cons (λ x. cond (p x) 1 0) (f w) (map f ws), sum_by-cons (λ x. cond (p (f x)) 1 0) w ws) (ap (λ m. cond (p (f w)) 1 0 + m) (count_by-map p f ws))

pub counts_in_order : (p : ℕ → Bool) (f : ℕ → ℕ) (ws xs ys zs : List ℕ) → xs ≡ map f ws → IsPermutation xs ys → zs ≡ ys → count_by p zs ≡ count_by (λ w. p (f w)) ws
counts_in_order p f ws xs ys zs e perm same =
    rw same (sum_by-IsPermutation (λ x. cond (p x) 1 0) xs ys perm ∙ (rw e (count_by-map p f ws)))
