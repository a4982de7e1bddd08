-- The share of a difference in a whole difference.
use Rattle.std.specs.Prelude.{◌≡◌, ℕ, ℤ, pos, Bool, List, length, nat_lt, not, ◌&&◌, ◌∷◌, cond, codes, int_lt, unsigned_abs}
use Rattle.std.specs.Str.{bytes_eq}
use Rattle.fw_table.specs.Shares.{IsShareText}

-- whether two differences have one sign; 0 is none that is below it
abbrev pub same_sign : ℤ → ℤ → Bool
same_sign part whole = cond (int_lt part (pos 0)) (int_lt whole (pos 0)) (not (int_lt whole (pos 0)))

-- whether a share has a minus, whose size is written so: where the signs differ, and the size is shown and not as `0.0%`
unfoldable pub has_minus : ℤ → ℤ → List ℕ → Bool
has_minus part whole size = not (same_sign part whole) && (nat_lt 0 (length size) && not (bytes_eq size (codes "0.0%")))

-- the text of a share: that of the sizes, with a minus where there is one
pub record IsDifferenceShare (part whole : ℤ) (text : List ℕ) : Type 0 where
  pub size : List ℕ
  pub is_size : IsShareText (pos (unsigned_abs part)) (pos (unsigned_abs whole)) size
  pub text_is : text ≡ cond (has_minus part whole size) (45 ∷ size) size
