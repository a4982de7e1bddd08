-- A text reads as one amount, or has one fault.
use Rattle.std.proofs.Common.{◌≡◌, ℕ, ◌+◌, ◌*◌, ◌<◌, ◌≤◌, ℤ, Result, Ok, Err, List, [], length, refl, sym, ap, ◌∙◌, arith, inl, inr, length-append}
use Rattle.std.proofs.Math.Nat.{mul-le-mul_right, mul-le-mul, le_of_mul-le-mul_right, one-le-pow}
use Rattle.std.proofs.lemmas.Bool.{cases_order}
use Rattle.fw_money.specs.Number.{Parts, Spells, is_minus, exponent_of, numerator, denominator}
use Rattle.fw_money.specs.Nearest.{IsNearest, distance}
use Rattle.fw_money.specs.Reading.{Reads, RoundedNumber, IsTooLong, signed, nanos_per_unit}
use Rattle.fw_money.specs.declared.nanos.MoneyFault.{MoneyFault}
use Rattle.fw_money.specs.declared.nanos.MoneyFault.TheVariants as fault
use Rattle.fw_money.proofs.ScanFacts.{scan_is}

-- of two nearest numbers neither is below the other
not_below : (m n p q : ℕ) → 0 < q → IsNearest m p q → IsNearest n p q → m < n → ⊥
not_below m n p q some a b lt =
    let step : (m + 1) * q ≤ n * q = mul-le-mul_right q (omega arith) in
    let top : n * q ≤ (m + 1) * q = omega (arith, a.near, b.near) in
    let ea : 2 * distance (m * q) p ≡ q = omega (arith, a.near, b.near) in
    let eb : 2 * distance (n * q) p ≡ q = omega (arith, a.near, b.near) in
    let near : n ≤ m + 1 = le_of_mul-le-mul_right {m = n} {n = m + 1} {k = q} top some in
    omega (arith, a.even ea, b.even eb)

-- a fraction has one nearest number
pub nearest-one : (m n p q : ℕ) → 0 < q → IsNearest m p q → IsNearest n p q → m ≡ n
nearest-one m n p q some a b = elim (cases_order m n) [
  | inl e ↦ e
  | inr o ↦ elim o [ inl lt ↦ absurd (not_below m n p q some a b lt) | inr gt ↦ absurd (not_below n m p q some b a gt) ]
]

-- a denominator is above 0
pub denominator-some : (p : Parts) → 0 < denominator p
denominator-some p = mul-le-mul {n₁ = 1} {m₁ = 1} (one-le-pow (length p.fraction) 10 (omega arith)) (one-le-pow _ 10 (omega arith))

-- a text is spelled by at most one list of parts
parts-one : (p p' : Parts) (t : List ℕ) → Spells p t → Spells p' t → p ≡ p'
parts-one p p' t a b = sym (scan_is p t a) ∙ scan_is p' t b

-- a text that some parts spell isn't empty
not_empty : (p : Parts) (t : List ℕ) → Spells p t → t ≡ [] → ⊥
not_empty p t h e = omega (arith, h.some_digit, length-append {A = ℕ}, ap length (sym h.in_turn ∙ e))

-- a text rounds to one absolute value
magnitude-one : (t : List ℕ) (a b : RoundedNumber t) → a.magnitude ≡ b.magnitude
magnitude-one t a b =
    let p = a.parts in
    let same : b.parts ≡ p = parts-one b.parts p t b.spells a.spells in
    nearest-one a.magnitude b.magnitude (numerator p * nanos_per_unit) (denominator p) (denominator-some p) a.rounded (rw same at b.rounded)

-- a text rounds to one amount
amount-one : (t : List ℕ) (a b : RoundedNumber t) → signed (is_minus a.parts.sign) a.magnitude ≡ signed (is_minus b.parts.sign) b.magnitude
amount-one t a b = ap (λ p. signed (is_minus p.sign) a.magnitude) (parts-one a.parts b.parts t a.spells b.spells) ∙ ap (signed (is_minus b.parts.sign)) (magnitude-one t a b)

-- a number that is too long isn't short
not_both : (p : Parts) (t : List ℕ) (a : RoundedNumber t) → Spells p t → IsTooLong p t → ⊥
not_both p t a h long =
    let same : exponent_of p ≡ exponent_of a.parts = ap exponent_of (parts-one p a.parts t h a.spells) in
    elim long [ inl l ↦ omega (arith, a.short.0) | inr l ↦ omega (arith, a.short.1, same) ]

-- a text reads as at most one thing
pub reads-one : (t : List ℕ) (r s : Result ℤ MoneyFault) → Reads t r → Reads t s → r ≡ s
unfolding Reads
reads-one t (Err fault.Empty) (Err fault.Empty) a b = refl
reads-one t (Err fault.Empty) (Err fault.Syntax) a b = absurd (b.0 a)
reads-one t (Err fault.Empty) (Err fault.TooLong) a b = absurd (not_empty b.0 t b.1 a)
reads-one t (Err fault.Empty) (Err fault.Range) a b = absurd (not_empty b.0.parts t b.0.spells a)
reads-one t (Err fault.Empty) (Ok y) a b = absurd (not_empty b.0.parts t b.0.spells a)
reads-one t (Err fault.Syntax) (Err fault.Empty) a b = absurd (a.0 b)
reads-one t (Err fault.Syntax) (Err fault.Syntax) a b = refl
reads-one t (Err fault.Syntax) (Err fault.TooLong) a b = absurd (a.1 b.0 b.1)
reads-one t (Err fault.Syntax) (Err fault.Range) a b = absurd (a.1 b.0.parts b.0.spells)
reads-one t (Err fault.Syntax) (Ok y) a b = absurd (a.1 b.0.parts b.0.spells)
reads-one t (Err fault.TooLong) (Err fault.Empty) a b = absurd (not_empty a.0 t a.1 b)
reads-one t (Err fault.TooLong) (Err fault.Syntax) a b = absurd (b.1 a.0 a.1)
reads-one t (Err fault.TooLong) (Err fault.TooLong) a b = refl
reads-one t (Err fault.TooLong) (Err fault.Range) a b = absurd (not_both a.0 t b.0 a.1 a.2)
reads-one t (Err fault.TooLong) (Ok y) a b = absurd (not_both a.0 t b.0 a.1 a.2)
reads-one t (Err fault.Range) (Err fault.Empty) a b = absurd (not_empty a.0.parts t a.0.spells b)
reads-one t (Err fault.Range) (Err fault.Syntax) a b = absurd (b.1 a.0.parts a.0.spells)
reads-one t (Err fault.Range) (Err fault.TooLong) a b = absurd (not_both b.0 t a.0 b.1 b.2)
reads-one t (Err fault.Range) (Err fault.Range) a b = refl
reads-one t (Err fault.Range) (Ok y) a b = absurd (omega (arith, magnitude-one t a.0 b.0, a.1, b.1))
reads-one t (Ok x) (Err fault.Empty) a b = absurd (not_empty a.0.parts t a.0.spells b)
reads-one t (Ok x) (Err fault.Syntax) a b = absurd (b.1 a.0.parts a.0.spells)
reads-one t (Ok x) (Err fault.TooLong) a b = absurd (not_both b.0 t a.0 b.1 b.2)
reads-one t (Ok x) (Err fault.Range) a b = absurd (omega (arith, magnitude-one t a.0 b.0, a.1, b.1))
reads-one t (Ok x) (Ok y) a b = ap Ok (a.2 ∙ (amount-one t a.0 b.0 ∙ sym b.2))

-- a text that reads as an amount has no fault
pub reads-apart : (t : List ℕ) (n : ℤ) (e : MoneyFault) → Reads t (Ok n) → Reads t (Err e) → ⊥
reads-apart t n e a b = let same = reads-one t (Ok n) (Err e) a b in absurd (cc)
