-- Digits, one after another.
use Rattle.std.proofs.Common.{◌≡◌, ℕ, zero, suc, ◌+◌, ◌-◌, ◌*◌, ◌<◌, ◌≤◌, List, [], ◌∷◌, ◌++◌, length, get_or, take, refl, ap, ◌∙◌, arith}
use Rattle.std.specs.Char.{digit_value}
use Rattle.std.specs.Str.Parse.{AllDigits, digits_value_after}
use Rattle.std.proofs.lemmas.Bool.Decides.{nat_tests}
use Rattle.std.proofs.lemmas.List.{take_more}

-- a decimal digit is an ASCII digit
pub decimal_digit : (c : ℕ) → digit_value c < 10 → (48 ≤ c) × (c < 58) × (digit_value c ≡ c - 48)
decimal_digit c h = grind (arith, nat_tests)

-- each of the digits is one
pub digit_at : (radix : ℕ) (ds : List ℕ) (i : ℕ) → AllDigits radix ds → i < length ds → digit_value (get_or ds i 0) < radix
digit_at radix [] i all lt = absurd (omega arith)
digit_at radix (c ∷ cs) zero all lt = all.0
digit_at radix (c ∷ cs) (suc i) all lt = digit_at radix cs i all.1 (omega arith)

-- the value of digits, and then of more
pub value_after_append : (n : ℕ) (xs ys : List ℕ) → digits_value_after 10 n (xs ++ ys) ≡ digits_value_after 10 (digits_value_after 10 n xs) ys
value_after_append n [] ys = refl
value_after_append n (x ∷ xs) ys = value_after_append (n * 10 + digit_value x) xs ys

-- the value of one digit more of a list
pub value_after_more : (n : ℕ) (ds : List ℕ) (i : ℕ) → i < length ds → digits_value_after 10 n (take (i + 1) ds) ≡ digits_value_after 10 n (take i ds) * 10 + digit_value (get_or ds i 0)
value_after_more n ds i lt = ap (digits_value_after 10 n) (take_more ds i 0 lt) ∙ value_after_append n (take i ds) (get_or ds i 0 ∷ [])

-- digits and more digits are digits
pub AllDigits-append : (xs ys : List ℕ) → AllDigits 10 xs → AllDigits 10 ys → AllDigits 10 (xs ++ ys)
AllDigits-append [] ys a b = b
AllDigits-append (x ∷ xs) ys a b = (a.0, AllDigits-append xs ys a.1 b)
