-- The code of a currency.
use Rattle.std.specs.Prelude.{◌≡◌, ℕ, List, length, All}
use Rattle.std.specs.Char.{IsAsciiUppercase}

-- three capital letters of ASCII
abbrev pub IsCode : List ℕ → Type 0
IsCode code = (length code ≡ 3) × All IsAsciiUppercase code
