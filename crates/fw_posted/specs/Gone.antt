-- Ranges of rows that were withdrawn.
use Rattle.std.specs.Prelude.{◌+◌, ◌&&◌, ℕ, Bool, List, [], ◌∷◌, nat_le, nat_lt}
use Rattle.fw_posted.specs.declared.gone.Gone.{Gone}
use Rattle.fw_posted.specs.Marks.{without}

-- whether a row is in a range
abbrev pub is_in : Gone → ℕ → Bool
is_in gone place = nat_le gone.from place && nat_lt place (gone.from + gone.count)

-- the marks, of which those in the ranges are false
unfoldable pub without_all : List Gone → List Bool → List Bool
without_all [] marks = marks
without_all (g ∷ gone) marks = without_all gone (without g.from g.count marks)
