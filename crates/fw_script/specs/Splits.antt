-- Where a text parts at a byte, which the functions that look for one answer.
use Rattle.std.specs.Prelude.{◌≡◌, ℕ, List, ◌∷◌, ◌++◌, Contains}

-- the text is what stands before the first such byte, that byte, and what stands after it
pub record FirstSplit (byte : ℕ) (text before after : List ℕ) : Type 0 where
  pub in_turn : text ≡ before ++ byte ∷ after
  pub clear : ¬ Contains before byte

-- the text is what stands before the last such byte, that byte, and what stands after it
pub record LastSplit (byte : ℕ) (text before after : List ℕ) : Type 0 where
  pub in_turn : text ≡ before ++ byte ∷ after
  pub clear : ¬ Contains after byte
