-- Amounts as people read them.
use Rattle.std.specs.Prelude.{ℕ, zero, suc, ℤ, pos, negsuc, ◌≡◌, ◌-◌, ◌/◌, ◌%◌, ◌==◌, nat_abs, List, [], ◌∷◌, ◌++◌, length, replicate, if◌then◌else◌}
use Rattle.std.specs.Fmt.{decimal}
use Rattle.fw_money.specs.Nearest.{IsNearest}

-- how many nanos a cent has
abbrev pub cent : ℕ
cent = 10000000

-- the comma behind a digit that so many follow: there is one where they are some threes
unfoldable pub comma_before : ℕ → List ℕ
comma_before zero = []
comma_before (suc n) = if suc n % 3 == 0 then 44 ∷ [] else []

-- digits, with a comma before each three of them, counted from the end
unfoldable pub grouped : List ℕ → List ℕ
grouped [] = []
grouped (d ∷ ds) = d ∷ (comma_before (length ds) ++ grouped ds)

-- `-` where the amount is negative and some cent is shown
unfoldable pub minus_text : ℤ → ℕ → List ℕ
minus_text (pos m) cents = []
minus_text (negsuc m) zero = []
minus_text (negsuc m) (suc n) = 45 ∷ []

-- a number below 100 as two digits
abbrev pub two_digits : ℕ → List ℕ
two_digits r = replicate (2 - length (decimal r)) 48 ++ decimal r

-- the text of an amount in nanos: the nearest count of cents, of two that are as near the even one, as the sign, the whole part with its
-- thousands apart, a point, and two digits
pub record IsCentsText (nanos : ℤ) (text : List ℕ) : Type 0 where
  pub cents : ℕ
  pub nearest : IsNearest cents (nat_abs nanos) cent
  pub text_is : text ≡ minus_text nanos cents ++ (grouped (decimal (cents / 100)) ++ (46 ∷ two_digits (cents % 100)))
