-- Where a text stands in a rising list, or would. The private functions that add reports cite it.
use Rattle.std.specs.Prelude.{◌≡◌, ◌<◌, ◌≤◌, ℕ, List, Result, Ok, Err, length, slice_index_or}
use Rattle.std.specs.Cmp.Lexicographic.{slice_cmp}
use Rattle.std.specs.Ordering.{nat_cmp}
use Rattle.std.specs.declared.cmp.Ordering.TheVariants.{Less, Greater}

-- the texts before a place are below a text, and those from it on above
pub record IsGap (texts : List (List ℕ)) (text : List ℕ) (place : ℕ) : Type 0 where
  pub before : (k : ℕ) → k < length texts → k < place → slice_cmp nat_cmp (slice_index_or texts k text) text ≡ Less
  pub after : (k : ℕ) → k < length texts → place ≤ k → slice_cmp nat_cmp (slice_index_or texts k text) text ≡ Greater

-- the text stands at a place
pub record StandsAt (texts : List (List ℕ)) (text : List ℕ) (place : ℕ) : Type 0 where
  pub below : place < length texts
  pub is : slice_index_or texts place text ≡ text

-- it stands at this place, or else would
abbrev pub IsPlaceOf : List (List ℕ) → List ℕ → Result ℕ ℕ → Type 0
IsPlaceOf texts text (Ok place) = StandsAt texts text place
IsPlaceOf texts text (Err place) = IsGap texts text place × (place ≤ length texts)
