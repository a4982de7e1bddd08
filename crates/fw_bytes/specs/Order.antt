-- Texts in strictly rising order of their bytes, as a test.
use Rattle.std.specs.Prelude.{ℕ, Bool, true, ◌&&◌, List, [], ◌∷◌}
use Rattle.std.specs.Ordering.{nat_cmp, is_lt}
use Rattle.std.specs.Cmp.Lexicographic.{slice_cmp}

-- a text is below another: at the first byte in which they differ, or as its front
abbrev pub is_before : List ℕ → List ℕ → Bool
is_before a b = is_lt (slice_cmp nat_cmp a b)

-- each text is above the one before it, the first above `last`
abbrev pub rise_from : List ℕ → List (List ℕ) → Bool
rise_from last [] = true
rise_from last (text ∷ texts) = is_before last text && rise_from text texts

-- each text is above the one before it
abbrev pub rise : List (List ℕ) → Bool
rise [] = true
rise (text ∷ texts) = rise_from text texts
