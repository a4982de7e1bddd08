-- What a text reads as: its amount in nanos, or the first reason why it is none.
use Rattle.std.specs.Prelude.{◌≡◌, ◌≢◌, ◌⊎◌, ℕ, ◌*◌, ◌<◌, ◌≤◌, Bool, ℤ, pos, neg_ℤ, if◌then◌else◌, List, [], length, Result, Ok, Err}
pub use Rattle.fw_money.specs.Amount.{nanos_per_unit, most_nanos}
use Rattle.fw_money.specs.Number.{Parts, Spells, is_minus, exponent_of, numerator, denominator}
use Rattle.fw_money.specs.Nearest.{IsNearest}
use Rattle.fw_money.specs.declared.nanos.MoneyFault.{MoneyFault}
use Rattle.fw_money.specs.declared.nanos.MoneyFault.TheVariants as fault

-- the number of this absolute value, negative or not; the negative of 0 is 0
abbrev pub signed : Bool → ℕ → ℤ
signed negative m = if negative then neg_ℤ (pos m) else pos m

-- the greatest number of bytes of a number text, and the greatest absolute value of its exponent
abbrev pub most_bytes : ℕ
most_bytes = 40

abbrev pub most_exponent : ℕ
most_exponent = 40

-- the text has too many bytes, or the value of its exponent is too great; how many digits the exponent has doesn't matter
abbrev pub IsTooLong : Parts → List ℕ → Type 0
IsTooLong p text = (most_bytes < length text) ⊎ (most_exponent < exponent_of p)

-- neither is so
abbrev pub IsShort : Parts → List ℕ → Type 0
IsShort p text = (length text ≤ most_bytes) × (exponent_of p ≤ most_exponent)

-- m is the number's absolute value in nanos, rounded; a number and its negative are rounded alike, so the sign can wait
abbrev pub RoundsTo : Parts → ℕ → Type 0
RoundsTo p m = IsNearest m (numerator p * nanos_per_unit) (denominator p)

-- the text is a number that isn't too long, and its absolute value is so many nanos, rounded
pub record RoundedNumber (text : List ℕ) : Type 0 where
  pub parts : Parts
  pub spells : Spells parts text
  pub short : IsShort parts text
  pub magnitude : ℕ
  pub rounded : RoundsTo parts magnitude

-- what a text reads as: the empty text is Empty; any other that no parts spell is Syntax; a number that is too long is TooLong; one
-- that isn't is Range where it rounds to more than the greatest amount, and else it is its rounded value with its sign
unfoldable pub Reads : List ℕ → Result ℤ MoneyFault → Type 0
Reads text (Err fault.Empty) = text ≡ []
Reads text (Err fault.Syntax) = (text ≢ []) × ((p : Parts) → ¬ Spells p text)
Reads text (Err fault.TooLong) = (p : Parts) × Spells p text × IsTooLong p text
Reads text (Err fault.Range) = (r : RoundedNumber text) × (most_nanos < r.magnitude)
Reads text (Ok n) = (r : RoundedNumber text) × (r.magnitude ≤ most_nanos) × (n ≡ signed (is_minus r.parts.sign) r.magnitude)
