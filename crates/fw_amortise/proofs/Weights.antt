-- The weights that share an hour's amount, the shares, and their lines.
use Rattle.std.proofs.Common.{◌≡◌, ℕ, zero, suc, ◌+◌, ◌-◌, ◌<◌, ◌≤◌, ap, List, [], ◌∷◌, ◌++◌, length, map, Bool, true, false, ◌==◌, cond, add-zero, arith, refl, sym, ◌∙◌, sum, sum_by, All, length-append, length-drop, take, drop}
use Rattle.std.specs.List.{zip}
use Rattle.std.proofs.lemmas.List.{length-map, take_all, append_assoc}
use Rattle.std.proofs.lemmas.List.Sums.{sum_by-cons, sum_by-append, get_or-le-sum_by}
use Rattle.std.proofs.lemmas.Bool.{eqb-true}
use Rattle.fw_shares.specs.Shares.{IsShares}
use Rattle.fw_charge.specs.Charge.{Charge}
use Rattle.fw_terms.specs.Commitment.{CommitmentValue}
use Rattle.fw_cover.specs.declared.taken.Taken.{Taken}
use Rattle.fw_amortise.specs.LineValue.{LineValue}
use Rattle.fw_amortise.specs.Lines.{weights_of, used_line, unused_line, shared_lines}

weights_sum : (ts : List Taken) → sum (map (λ t. t.weight) ts) ≡ sum_by (λ t. t.weight) ts
weights_sum [] = refl
weights_sum (t ∷ ts) = rw (sum_by-cons (λ x. x) t.weight (map (λ t. t.weight) ts), sum_by-cons (λ t. t.weight) t ts) (omega (arith, weights_sum ts))

sum_unused : (none : Bool) (n : ℕ) → none ≡ (n == 0) → sum (cond none [] (n ∷ [])) ≡ n
sum_unused true n e = sym (eqb-true n 0 (sym e))
sum_unused false n e = sum_by-cons (λ x. x) n [] ∙ add-zero n

pub sum-weights_of : (ts : List Taken) (unused : ℕ) → sum (weights_of ts unused) ≡ sum_by (λ t. t.weight) ts + unused
unfolding weights_of
sum-weights_of ts unused =
    let both : sum (map (λ t. t.weight) ts ++ cond (unused == 0) [] (unused ∷ [])) ≡ sum (map (λ t. t.weight) ts) + sum (cond (unused == 0) [] (unused ∷ [])) =
    sum_by-append (λ x. x) (map (λ t. t.weight) ts) (cond (unused == 0) [] (unused ∷ [])) in
    omega (arith, both, weights_sum ts, sum_unused (unused == 0) unused refl)

pub length-weights_of : (ts : List Taken) (unused : ℕ) → length ts ≤ length (weights_of ts unused)
unfolding weights_of
length-weights_of ts unused = omega (arith, length-append (map (λ t. t.weight) ts) (cond (unused == 0) [] (unused ∷ [])), length-map ts (λ t. t.weight))

pub shares_small : (n : ℕ) (ws s : List ℕ) (m : ℕ) → n ≤ m → IsShares n ws s → All (λ x. x ≤ m) s
shares_small n ws s m h a = λ k d l. omega (arith, get_or-le-sum_by (λ x. x) s k d l, a.whole)

-- the lines of the things taken, and then those of the other shares, are the lines of a commitment
pub shared_lines-added : (hour : ℕ) (c : CommitmentValue) (rows : List Charge) (takes : List Taken) (s s1 s2 : List ℕ) (old mid new : List LineValue) → s1 ≡ s → s2 ≡ s → mid ≡ old ++ map (λ p. used_line hour c rows p.0 p.1) (zip takes s1) → new ≡ mid ++ map (unused_line hour c) (take (length s2 - length takes) (drop (length takes) s2)) → new ≡ old ++ shared_lines hour c rows takes s
unfolding shared_lines
shared_lines-added hour c rows takes s s1 s2 old mid new e1 e2 em en =
    let rest : take (length s2 - length takes) (drop (length takes) s2) ≡ drop (length takes) s2 = take_all _ _ (omega (arith, length-drop (length takes) s2)) in
    en ∙ (rw (rest, em, e1, e2) (append_assoc old (map (λ p. used_line hour c rows p.0 p.1) (zip takes s)) (map (unused_line hour c) (drop (length takes) s))))

-- there is a share beyond those of the things taken only where capacity is unused
pub spare_weight : (ts : List Taken) (unused : ℕ) (s : List ℕ) (k : ℕ) → length s ≡ length (weights_of ts unused) → k < length (drop (length ts) s) → 0 < unused
unfolding weights_of
spare_weight ts unused s k one_each lt =
    let both = length-append (map (λ t. t.weight) ts) (cond (unused == 0) [] (unused ∷ [])) in
    let few = length-map ts (λ t. t.weight) in
    let beyond = length-drop (length ts) s in
    by_unused unused (cond (unused == 0) [] (unused ∷ [])) refl (omega (arith, both, few, beyond, one_each, lt))
  where
    by_unused : (n : ℕ) (spare : List ℕ) → spare ≡ cond (n == 0) [] (n ∷ []) → k < length spare → 0 < n
    by_unused zero spare is lt = let none : length spare ≡ 0 = ap length is in absurd (omega (arith, none, lt))
    by_unused (suc n) spare is lt = omega arith
