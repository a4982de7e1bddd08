-- The steps of a rounding, over plain numbers.
use Rattle.std.proofs.Common.{◌≡◌, ◌⊎◌, ℕ, suc, ◌+◌, ◌-◌, ◌*◌, ◌^◌, ◌<◌, ◌≤◌, ◌↔◌, ◌%◌, ◌==◌, ◌||◌, cond, nat_lt, Bool, true, false, IsTrue, Option, Some, None, refl, arith, inl, inr, add-zero, ◌∙◌, ◌&&◌}
use Rattle.std.proofs.Math.Nat.{pow-suc}
use Rattle.std.proofs.lemmas.Bool.{cases_lt, ltb-true, ltb-false, eqb-true, eqb-false}
use Rattle.fw_money.specs.Rounding.{Holds, IsCapped, TailIs, kept_limit, rounds_up}
use Rattle.std.proofs.Math.Nat.{mul-le-mul_right}
use Rattle.fw_money.specs.Amount.{most_nanos}
use Rattle.fw_money.specs.Nearest.{IsNearest, distance}
use Rattle.fw_money.specs.declared.rounding.Rounding.{Rounding}
use Rattle.fw_money.specs.declared.rounding.Tail.{Tail}

-- one more digit of a number that is kept as far as the limit
pub capped_more : (kept k d : ℕ) → IsCapped kept k → kept < kept_limit → IsCapped (kept * 10 + d) (k * 10 + d)
capped_more kept k d (inl e) lt = inl (omega arith)
capped_more kept k d (inr h) lt = absurd (omega arith)

-- one more digit of a number that is kept no further
pub capped_stays : (kept k d : ℕ) → IsCapped kept k → kept_limit ≤ kept → IsCapped kept (k * 10 + d)
capped_stays kept k d (inl e) le = inr (omega arith, omega arith)
capped_stays kept k d (inr h) le = inr (h.0, omega arith)

-- where no digit was dropped there is no rest
no_rest : (o : Option Tail) (rest : ℕ) → TailIs o rest 0 → (rest ≡ 0) × TailIs o 0 0
no_rest None rest h = (h.1, (refl, refl))
no_rest (Some t) rest h = absurd (omega (arith, h.2))

-- a digit that is kept
pub push_kept : (keep v t d kept : ℕ) (s : Rounding) → 0 < s.keep → (h : Holds keep s v t) → IsCapped kept (h.quotient * 10 + d)
    → Holds keep (record { keep = s.keep - 1; kept = kept; tail = s.tail }) (v * 10 + d) (t + 1)
push_kept keep v t d kept s some h capped =
    let here : t - keep ≡ 0 = omega (arith, h.left) in
    let next : (t + 1) - keep ≡ 0 = omega (arith, h.left) in
    let clean = no_rest s.tail h.rest (rw here at h.tail) in
    let whole : v ≡ h.quotient * 10 ^ 0 + h.rest = rw here at h.split in
    record {
      left = omega (arith, h.left);
      quotient = h.quotient * 10 + d;
      rest = 0;
      split = rw next (omega (arith, whole, clean.0));
      kept = capped;
      tail = rw next clean.1;
    }

-- the first digit that is dropped
pub push_first : (keep v t d : ℕ) (s : Rounding) → d < 10 → s.keep ≡ 0 → s.tail ≡ None → Holds keep s v t
    → Holds keep (record { keep = 0; kept = s.kept; tail = Some (record { first = d; more = false }) }) (v * 10 + d) (t + 1)
push_first keep v t d s small zero none h =
    let tail : (t - keep ≡ 0) × (h.rest ≡ 0) = rw none at h.tail in
    let next : (t + 1) - keep ≡ 1 = omega (arith, h.left, tail.0) in
    let whole : v ≡ h.quotient * 10 ^ 0 + h.rest = rw tail.0 at h.split in
    record {
      left = omega (arith, h.left);
      quotient = h.quotient;
      rest = d;
      split = rw next (omega (arith, whole, tail.1));
      kept = h.kept;
      tail = rw next (1, 0, refl, omega arith, omega arith, small, (λ e. absurd (cc), λ lt. absurd (omega arith)));
    }

-- any other digit that is dropped
pub push_more : (keep v t d : ℕ) (s : Rounding) (tail : Tail) (more : Bool) → d < 10 → s.keep ≡ 0 → s.tail ≡ Some tail → (IsTrue more ↔ (IsTrue tail.more ⊎ (0 < d))) → Holds keep s v t
    → Holds keep (record { keep = 0; kept = s.kept; tail = Some (record { first = tail.first; more = more }) }) (v * 10 + d) (t + 1)
push_more keep v t d s tail more small zero some or h =
    let old = rw some at h.tail in
    let next : (t + 1) - keep ≡ suc (t - keep) = omega (arith, h.left) in
    let pow : 10 ^ ((t + 1) - keep) ≡ 10 * 10 ^ (t - keep) = rw next (omega (arith, pow-suc 10 (t - keep))) in
    let w = old.0 in
    let low = old.1 in
    let some_low : 0 < low * 10 + d → (IsTrue tail.more ⊎ (0 < d)) = λ lt. elim (cases_lt 0 d) [ inl a ↦ inr a | inr b ↦ inl (old.6.1 (omega arith)) ] in
    record {
      left = omega (arith, h.left);
      quotient = h.quotient;
      rest = h.rest * 10 + d;
      split = rw pow (omega (arith, h.split));
      kept = h.kept;
      tail = rw pow (
        10 * w,
        low * 10 + d,
        omega (arith, old.2),
        omega (arith, old.3),
        omega (arith, old.4, small),
        old.5,
        (λ m. elim (or.0 m) [ inl a ↦ omega (arith, old.6.0 a) | inr b ↦ omega arith ], λ lt. or.1 (some_low lt)),
      );
    }

-- the number below, where the rest is at most half, and the number above, where it is at least half
near_below : (q rest u v : ℕ) → v ≡ q * u + rest → 2 * rest ≤ u → (2 * rest ≡ u → q % 2 ≡ 0) → IsNearest q v u
near_below q rest u v split small even =
    let apart : distance (q * u) v ≡ rest = omega arith in
    record { near = omega (arith, apart); even = λ e. even (omega (arith, apart)) }

near_above : (q rest u v : ℕ) → v ≡ q * u + rest → rest ≤ u → u ≤ 2 * rest → (2 * rest ≡ u → (q + 1) % 2 ≡ 0) → IsNearest (q + 1) v u
near_above q rest u v split below large even =
    let apart : distance ((q + 1) * u) v ≡ u - rest = omega arith in
    record { near = omega (arith, apart); even = λ e. even (omega (arith, apart)) }

-- where the first dropped digit says it all
at_digit : (b : Bool) (first w low rest u : ℕ) → u ≡ 10 * w → rest ≡ first * w + low → low < w → first < 10 → (q v : ℕ) → v ≡ q * u + rest
    → (b ≡ true → 5 < first) → (b ≡ false → first < 5) → IsNearest (q + cond b 1 0) v u
at_digit true first w low rest u eu er lt small q v split up down =
    let h : 6 * w ≤ first * w = mul-le-mul_right w (omega (arith, up refl)) in
    let g : first * w ≤ 9 * w = mul-le-mul_right w (omega arith) in
    near_above q rest u v split (omega arith) (omega arith) (λ e. absurd (omega arith))
at_digit false first w low rest u eu er lt small q v split up down =
    let g : first * w ≤ 4 * w = mul-le-mul_right w (omega (arith, down refl)) in
    rw add-zero (near_below q rest u v split (omega arith) (λ e. absurd (omega arith)))

-- a number that is not odd is even
even_from : (q : ℕ) → (q % 2 ≡ 1 → ⊥) → q % 2 ≡ 0
even_from q h = omega (arith, h)

-- where the first dropped digit is 5
at_five : (more odd : Bool) (w low rest u : ℕ) → u ≡ 10 * w → rest ≡ 5 * w + low → low < w → (more ≡ true ↔ (0 < low)) → (q v : ℕ) → v ≡ q * u + rest
    → (odd ≡ true → q % 2 ≡ 1) → (odd ≡ false → q % 2 ≡ 0) → IsNearest (q + cond (more || odd) 1 0) v u
at_five true odd w low rest u eu er lt iff q v split up down =
    let some : 0 < low = iff.0 refl in
    near_above q rest u v split (omega arith) (omega arith) (λ e. absurd (omega arith))
at_five false true w low rest u eu er lt iff q v split up down =
    let o : q % 2 ≡ 1 = up refl in
    near_above q rest u v split (omega arith) (omega arith) (λ e. omega arith)
at_five false false w low rest u eu er lt iff q v split up down =
    let none : low ≡ 0 = elim (cases_lt 0 low) [ inl a ↦ absurd (let e = iff.1 a in cc) | inr b ↦ omega arith ] in
    rw add-zero (near_below q rest u v split (omega arith) (λ e. down refl))

-- a state's number, rounded, is nearest
nearest_some : (q rest u v w low : ℕ) (t : Tail) → u ≡ 10 * w → rest ≡ t.first * w + low → low < w → t.first < 10 → (IsTrue t.more ↔ (0 < low)) → v ≡ q * u + rest
    → (high five odd : Bool) → nat_lt 5 t.first ≡ high → (t.first == 5) ≡ five → (q % 2 == 1) ≡ odd
    → IsNearest (q + cond (high || (five && (t.more || odd))) 1 0) v u
nearest_some q rest u v w low t eu er lt small iff split true five odd eh ef eo =
    at_digit true t.first w low rest u eu er lt small q v split (λ _. ltb-true 5 t.first eh) (λ e. absurd (cc))
nearest_some q rest u v w low t eu er lt small iff split false true odd eh ef eo =
    let at5 : t.first ≡ 5 = eqb-true t.first 5 ef in
    at_five t.more odd w low rest u eu (rw at5 at er) lt iff q v split (λ e. eqb-true (q % 2) 1 (eo ∙ e)) (λ e. even_from q (eqb-false (q % 2) 1 (eo ∙ e)))
nearest_some q rest u v w low t eu er lt small iff split false false odd eh ef eo =
    let le : t.first ≤ 5 = ltb-false 5 t.first eh in
    let ne : t.first ≡ 5 → ⊥ = eqb-false t.first 5 ef in
    at_digit false t.first w low rest u eu er lt small q v split (λ e. absurd (cc)) (λ _. omega (arith, ne))

-- a number of which j digits were dropped, rounded by what the tail says, is nearest
pub nearest_of : (q rest j v : ℕ) (o : Option Tail) → v ≡ q * 10 ^ j + rest → TailIs o rest j → IsNearest (q + cond (rounds_up q o) 1 0) v (10 ^ j)
nearest_of q rest j v None split h =
    let one : 10 ^ j ≡ 1 = rw h.0 refl in
    rw add-zero (near_below q rest (10 ^ j) v split (omega (arith, h.1)) (λ e. absurd (omega (arith, one, h.1))))
nearest_of q rest j v (Some t) split h =
    nearest_some q rest (10 ^ j) v h.0 h.1 t h.2 h.3 h.4 h.5 h.6 split (nat_lt 5 t.first) (t.first == 5) (q % 2 == 1) refl refl refl

-- the state's number, rounded, where it is exact and where it is past the limit
pub nearest_exact : (keep v t : ℕ) (s : Rounding) → Holds keep s v t → s.kept ≤ most_nanos → IsNearest (s.kept + cond (rounds_up s.kept s.tail) 1 0) v (10 ^ (t - keep))
nearest_exact keep v t s h le =
    let same : s.kept ≡ h.quotient = elim h.kept [ inl e ↦ e | inr p ↦ absurd (omega (arith, p.0)) ] in
    rw same (nearest_of h.quotient h.rest (t - keep) v s.tail h.split h.tail)

-- where more than the greatest amount was kept, the nearest number is above it too
pub nearest_large : (keep v t : ℕ) (s : Rounding) → Holds keep s v t → most_nanos < s.kept → (m : ℕ) × IsNearest m v (10 ^ (t - keep)) × (most_nanos < m)
nearest_large keep v t s h lt =
    let large : most_nanos < h.quotient = elim h.kept [ inl e ↦ omega arith | inr p ↦ omega (arith, p.1) ] in
    (h.quotient + cond (rounds_up h.quotient s.tail) 1 0, nearest_of h.quotient h.rest (t - keep) v s.tail h.split h.tail, omega arith)

-- the same, at equal numbers
pub Holds-at : (keep v v' t t' : ℕ) (s : Rounding) → v ≡ v' → t ≡ t' → Holds keep s v t → Holds keep s v' t'
Holds-at keep v v' t t' s ev et h = rw (← ev, ← et) h
