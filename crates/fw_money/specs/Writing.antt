-- The text of a count of nanos.
use Rattle.std.specs.Prelude.{ℕ, ◌-◌, ◌/◌, ◌%◌, ℤ, pos, negsuc, nat_abs, List, [], ◌∷◌, ◌++◌, length, replicate}
use Rattle.std.specs.Fmt.{decimal}
use Rattle.fw_money.specs.Amount.{nanos_per_unit}

-- a number below 10^9 as nine digits, with zeros in front
abbrev pub nine_digits : ℕ → List ℕ
nine_digits r = replicate (9 - length (decimal r)) 48 ++ decimal r

-- `-` where the number is negative, and else nothing
abbrev pub sign_text : ℤ → List ℕ
sign_text (pos m) = []
sign_text (negsuc m) = 45 ∷ []

-- the sign, the whole part in units, a point, and the nanos past it as nine digits
unfoldable pub text_of : ℤ → List ℕ
text_of z = sign_text z ++ (decimal (nat_abs z / nanos_per_unit) ++ (46 ∷ nine_digits (nat_abs z % nanos_per_unit)))
