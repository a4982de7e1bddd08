-- Lists of texts, each as its bytes.
use Rattle.std.specs.Prelude.{◌⊎◌, ℕ, List, [], ◌∷◌, Contains}
use Rattle.std.specs.List.Sorted.{IsStrictlySortedBy}
use Rattle.std.specs.Cmp.Lexicographic.{slice_cmp}
use Rattle.std.specs.Ordering.{nat_cmp}

-- each text stands before those after it in byte order, so none stands twice
abbrev pub IsRising : List (List ℕ) → Type 0
IsRising texts = IsStrictlySortedBy (slice_cmp nat_cmp) texts

-- some text stands at two places of the list
unfoldable pub HasTwice : List (List ℕ) → Type 0
HasTwice [] = ⊥
HasTwice (x ∷ xs) = Contains xs x ⊎ HasTwice xs
