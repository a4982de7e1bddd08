-- Shares of a whole as people read them.
use Rattle.std.specs.Prelude.{ℕ, ℤ, pos, ◌≡◌, ◌⊎◌, ◌<ℤ◌, ◌≤ℤ◌, ◌≤◌, ◌+◌, ◌*◌, ◌/◌, ◌%◌, ◌^◌, unsigned_abs, Option, Some, None, List, [], ◌∷◌, ◌++◌}
use Rattle.std.specs.Fmt.{decimal}

-- A share in tenths of a percent: the nearest, a tie upwards. There is none where the whole isn't above 0, where the part is below 0, or where
-- the sum that is divided passes 128 bits.
abbrev pub IsShare : ℤ → ℤ → Option ℕ → Type 0
IsShare part whole None = (part <ℤ pos 0) ⊎ ((whole ≤ℤ pos 0) ⊎ (2 ^ 128 ≤ 2000 * unsigned_abs part + unsigned_abs whole))
IsShare part whole (Some tenths) = (pos 0 ≤ℤ part) × (pos 0 <ℤ whole) × (tenths ≡ (2000 * unsigned_abs part + unsigned_abs whole) / (2 * unsigned_abs whole))

-- tenths of a percent, as `12.5%`
abbrev pub share_digits : ℕ → List ℕ
share_digits tenths = decimal (tenths / 10) ++ (46 ∷ (decimal (tenths % 10) ++ (37 ∷ [])))

-- what is written of a share, and of none
abbrev pub shown_share : Option ℕ → List ℕ
shown_share None = []
shown_share (Some tenths) = share_digits tenths

-- the text of the share of a part in a whole
pub record IsShareText (part whole : ℤ) (text : List ℕ) : Type 0 where
  pub tenths : Option ℕ
  pub share : IsShare part whole tenths
  pub text_is : text ≡ shown_share tenths
