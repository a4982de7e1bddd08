-- Lists in order, without a word on how they are sorted.
use Rattle.std.specs.Prelude.{ℕ, ◌<◌, Bool, List, get_or}
use Rattle.std.specs.List.Sorted.{IsPermutation, IsSortedBy, IsStableBy}

-- a list in the order of a test: the same elements, none before an earlier one, and those that tie stand as they stood
pub record IsOrdered {X : Type 0} (before : X → X → Bool) (xs ys : List X) : Type 0 where
  pub same : IsPermutation xs ys
  pub sorted : IsSortedBy before ys
  pub stable : IsStableBy before xs ys

-- each number is a byte
abbrev pub AreBytes : List ℕ → Type 0
AreBytes bytes = (place : ℕ) → get_or bytes place 0 < 256
