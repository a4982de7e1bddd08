-- What is written reads back.
use Rattle.std.proofs.Common.{◌≡◌, ℕ, suc, zero, ◌+◌, ◌-◌, ◌*◌, ◌^◌, ◌/◌, ◌%◌, ◌<◌, ◌≤◌, ℤ, pos, negsuc, nat_abs, Result, Ok, List, [], ◌∷◌, ◌++◌, length, replicate, refl, sym, ap, ◌∙◌, arith, inl, inr, length-append, append-nil, lit<}
use Rattle.std.specs.Char.{digit_value}
use Rattle.std.proofs.lemmas.List.{length-replicate}
use Rattle.std.proofs.Math.Nat.{pow-suc}
use Rattle.std.specs.Str.Parse.{AllDigits, digits_value, digits_value_after}
use Rattle.std.specs.Fmt.{decimal}
use Rattle.std.proofs.lemmas.Fmt.{decimal_is_IsNumeral, length-decimal-le}
use Rattle.fw_money.specs.Number.{Parts, Spells, IsSign, is_minus}
use Rattle.fw_money.specs.Nearest.{IsNearest, distance}
use Rattle.fw_money.specs.Reading.{Reads, RoundedNumber, signed, most_nanos, nanos_per_unit}
use Rattle.fw_money.specs.Writing.{text_of, sign_text, nine_digits}
use Rattle.fw_money.specs.declared.nanos.MoneyFault.{MoneyFault}
use Rattle.fw_money.proofs.DigitValues.{value_after_append, AllDigits-append}
use Rattle.fw_money.proofs.ReadingLaws.{reads-one}

-- zeros are digits
zeros_digits : (n : ℕ) → AllDigits 10 (replicate n 48)
zeros_digits zero = tt
zeros_digits (suc n) = (lit< tt, zeros_digits n)

-- zeros have the value 0
zeros_value : (n : ℕ) → digits_value_after 10 0 (replicate n 48) ≡ 0
zeros_value zero = refl
zeros_value (suc n) = zeros_value n

-- the parts of a written amount
abbrev written : ℤ → Parts
written z = record {
  sign = sign_text z;
  whole = decimal (nat_abs z / nanos_per_unit);
  point = 46 ∷ [];
  fraction = nine_digits (nat_abs z % nanos_per_unit);
  mark = [];
  exponent_sign = [];
  exponent = [];
}

-- nine digits are nine
nine_length : (r : ℕ) → r < 1000000000 → length (nine_digits r) ≡ 9
nine_length r small = omega (arith, length-append (replicate (9 - length (decimal r)) 48) (decimal r), length-replicate {A = ℕ}, length-decimal-le 9 r (omega arith) (omega arith) (omega arith))

-- nine digits are digits
nine_all : (r : ℕ) → r < 1000000000 → AllDigits 10 (nine_digits r)
nine_all r small = AllDigits-append (replicate (9 - length (decimal r)) 48) (decimal r) (zeros_digits (9 - length (decimal r))) (decimal_is_IsNumeral r (omega arith)).0.1

-- the value of digits behind a number
value_after_is : (n : ℕ) (ds : List ℕ) → digits_value_after 10 n ds ≡ n * 10 ^ length ds + digits_value 10 ds
value_after_is n [] = omega arith
value_after_is n (c ∷ cs) =
    let d = digit_value c in
    let here : digits_value_after 10 (n * 10 + d) cs ≡ (n * 10 + d) * 10 ^ length cs + digits_value 10 cs = value_after_is (n * 10 + d) cs in
    let start : digits_value_after 10 (0 * 10 + d) cs ≡ (0 * 10 + d) * 10 ^ length cs + digits_value 10 cs = value_after_is (0 * 10 + d) cs in
    rw (pow-suc 10 (length cs)) (omega (arith, here, start))

-- nine digits have the value that they were written for
nine_value : (r : ℕ) → r < 1000000000 → digits_value 10 (nine_digits r) ≡ r
nine_value r small =
    let n = 9 - length (decimal r) in
    value_after_append 0 (replicate n 48) (decimal r) ∙ (ap (λ x. digits_value_after 10 x (decimal r)) (zeros_value n) ∙ (decimal_is_IsNumeral r (omega arith)).1)

-- the digits of both parts together are the amount
joined_value : (w : List ℕ) (a r : ℕ) → digits_value 10 w ≡ a → r < 1000000000 → digits_value 10 (w ++ nine_digits r) ≡ a * 1000000000 + r
joined_value w a r e small =
    let long : 10 ^ length (nine_digits r) ≡ 1000000000 = ap (λ n. 10 ^ n) (nine_length r small) in
    let all = value_after_append 0 w (nine_digits r) ∙ value_after_is (digits_value 10 w) (nine_digits r) in
    all ∙ (ap (λ x. x * 10 ^ length (nine_digits r) + digits_value 10 (nine_digits r)) e ∙ (ap (λ x. a * x + digits_value 10 (nine_digits r)) long ∙ ap (λ x. a * 1000000000 + x) (nine_value r small)))

-- the sign of a text is a sign
sign_is : (z : ℤ) → IsSign (sign_text z)
sign_is (pos m) = inl refl
sign_is (negsuc m) = inr (inr refl)

-- a sign has at most one byte
sign_short : (z : ℤ) → length (sign_text z) ≤ 1
sign_short (pos m) = omega arith
sign_short (negsuc m) = omega arith

-- the parts of a written amount spell its text
spells : (z : ℤ) → nat_abs z ≤ most_nanos → Spells (written z) (text_of z)
unfolding text_of
spells z small =
    let m = nat_abs z in
    let whole = decimal (m / nanos_per_unit) in
    let rest : m % 1000000000 < 1000000000 = omega arith in
    let nine = nine_digits (m % nanos_per_unit) in
    let w = (decimal_is_IsNumeral (m / nanos_per_unit) (omega arith)).0 in
    record {
      in_turn = ap (λ x. sign_text z ++ (whole ++ (46 ∷ x))) (sym (append-nil nine));
      sign = sign_is z;
      whole = w.1;
      point = inr refl;
      fraction = nine_all (m % nanos_per_unit) rest;
      some_digit = omega (arith, length-append whole nine, w.0);
      mark = inl (refl, refl, refl);
      exponent_sign = inl refl;
      exponent = tt;
    }

-- a whole number is nearest to itself
exact : (m p q : ℕ) → 0 < q → p ≡ m * q → IsNearest m p q
exact m p q some e =
    let apart : distance (m * q) p ≡ 0 = omega arith in
    record { near = omega (arith, apart); even = λ h. absurd (omega (arith, apart, h)) }

-- the sign that is written is the sign that is read
signed_back : (z : ℤ) → z ≡ signed (is_minus (sign_text z)) (nat_abs z)
signed_back (pos m) = refl
signed_back (negsuc m) = refl

-- the text of an amount reads as it
pub reads_back : (z : ℤ) → nat_abs z ≤ most_nanos → Reads (text_of z) (Ok z)
unfolding Reads text_of
reads_back z small =
    let m = nat_abs z in
    let whole = decimal (m / nanos_per_unit) in
    let rest : m % 1000000000 < 1000000000 = omega arith in
    let nine = nine_digits (m % nanos_per_unit) in
    let long : length nine ≡ 9 = nine_length (m % nanos_per_unit) rest in
    let value : digits_value 10 (whole ++ nine) ≡ m =
    joined_value whole (m / 1000000000) (m % 1000000000) (decimal_is_IsNumeral (m / nanos_per_unit) (omega arith)).1 rest ∙ omega arith in
    let low : 10 ^ length nine ≡ 1000000000 = ap (λ n. 10 ^ n) long in
    let short : length (text_of z) ≤ 40 =
    omega (arith, length-append (sign_text z) (whole ++ (46 ∷ nine)), length-append whole (46 ∷ nine), long, sign_short z, length-decimal-le 9 (m / 1000000000) (omega arith) (omega arith) (omega arith)) in
    let number : RoundedNumber (text_of z) =
    record {
      parts = written z;
      spells = spells z small;
      short = (short, omega arith);
      magnitude = m;
      rounded = exact m _ _ (rw low (omega arith)) (rw (value, low) (omega arith));
    } in
    (number, small, signed_back z)

-- the outcome of reading what was written
pub round_trip : (z : ℤ) → nat_abs z ≤ most_nanos → (r : Result ℤ MoneyFault) → Reads (text_of z) r → r ≡ Ok z
round_trip z small r h = reads-one (text_of z) r (Ok z) h (reads_back z small)
