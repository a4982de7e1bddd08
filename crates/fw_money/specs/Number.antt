-- The form of a number text, and the fraction that it stands for.
use Rattle.std.specs.Prelude.{◌≡◌, ◌⊎◌, ℕ, ◌*◌, ◌^◌, ◌<◌, Bool, false, ◌==◌, if◌then◌else◌, List, [], ◌∷◌, ◌++◌, length}
use Rattle.std.specs.Str.Parse.{AllDigits, digits_value}

-- the parts of a number text, each as its bytes, in the order in which they stand; a part that isn't there is empty
pub record Parts : Type 0 where
  pub sign : List ℕ
  pub whole : List ℕ
  pub point : List ℕ
  pub fraction : List ℕ
  pub mark : List ℕ
  pub exponent_sign : List ℕ
  pub exponent : List ℕ

-- a sign is nothing, `+` or `-`
abbrev pub IsSign : List ℕ → Type 0
IsSign s = (s ≡ []) ⊎ ((s ≡ 43 ∷ []) ⊎ (s ≡ 45 ∷ []))

-- the digits before the point and those after it
abbrev pub digits_of : Parts → List ℕ
digits_of p = p.whole ++ p.fraction

-- the parts spell the text: an optional sign; then digits, at least one of them, with an optional `.` before, among or after them;
-- then nothing, or `e` or `E`, an optional sign and at least one digit; digits are ASCII, and nothing else stands
pub record Spells (p : Parts) (text : List ℕ) : Type 0 where
  pub in_turn : text ≡ p.sign ++ (p.whole ++ (p.point ++ (p.fraction ++ (p.mark ++ (p.exponent_sign ++ p.exponent)))))
  pub sign : IsSign p.sign
  pub whole : AllDigits 10 p.whole
  pub point : ((p.point ≡ []) × (p.fraction ≡ [])) ⊎ (p.point ≡ 46 ∷ [])
  pub fraction : AllDigits 10 p.fraction
  pub some_digit : 0 < length (digits_of p)
  pub mark : ((p.mark ≡ []) × (p.exponent_sign ≡ []) × (p.exponent ≡ [])) ⊎ (((p.mark ≡ 101 ∷ []) ⊎ (p.mark ≡ 69 ∷ [])) × (0 < length p.exponent))
  pub exponent_sign : IsSign p.exponent_sign
  pub exponent : AllDigits 10 p.exponent

-- whether a sign is `-`
abbrev pub is_minus : List ℕ → Bool
is_minus [] = false
is_minus (c ∷ rest) = c == 45

-- the absolute value of the exponent, which is 0 where there is none
abbrev pub exponent_of : Parts → ℕ
exponent_of p = digits_value 10 p.exponent

-- how many places the exponent moves the point to the right, and how many to the left
abbrev pub places_right : Parts → ℕ
places_right p = if is_minus p.exponent_sign then 0 else exponent_of p

abbrev pub places_left : Parts → ℕ
places_left p = if is_minus p.exponent_sign then exponent_of p else 0

-- the absolute value of the number is the fraction `numerator p / denominator p`
abbrev pub numerator : Parts → ℕ
numerator p = digits_value 10 (digits_of p) * 10 ^ places_right p

abbrev pub denominator : Parts → ℕ
denominator p = 10 ^ length p.fraction * 10 ^ places_left p
