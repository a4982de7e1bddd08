-- The order of lines, and which are shown.
use Rattle.std.specs.Prelude.{◌≡◌, ℕ, Bool, List, [], ◌∷◌, ◌++◌, drop, length, take, Option, None, Some, cond, nat_lt}
use Rattle.std.specs.List.Sorted.{IsPermutation, IsSortedBy, IsStableBy}
use Rattle.std.specs.Ordering.{int_cmp, is_lt}
use Rattle.fw_compare.specs.Comparison.{LineValue, afters, befores}
use Rattle.fw_compare.specs.Costs.{less, sums_of}
use Rattle.fw_compare.specs.declared.line.Line.{Line}

-- a line with the larger difference of what is charged comes first
abbrev pub comes_first : Line → Line → Bool
comes_first a b = is_lt (int_cmp b.change.charged a.change.charged)

-- the same lines, the largest rise first; lines of one difference keep their order
pub record AreRanked (lines ranked : List Line) : Type 0 where
  pub same : IsPermutation lines ranked
  pub falling : IsSortedBy comes_first ranked
  pub stable : IsStableBy comes_first lines ranked

-- a line without a name has the sums of the lines, and their difference
pub record IsTotal (lines : List LineValue) (total : LineValue) : Type 0 where
  pub name : total.name ≡ None
  pub before : total.before ≡ sums_of (befores lines)
  pub after : total.after ≡ sums_of (afters lines)
  pub change : total.change ≡ less total.after total.before

-- the first so many lines, and one with the sums of the others
pub record AreFirst (count : ℕ) (lines shown : List LineValue) : Type 0 where
  pub others : LineValue
  pub is_total : IsTotal (drop count lines) others
  pub shown_are : shown ≡ take count lines ++ others ∷ []

-- all lines where so many may be shown; else the first so many, and one of the others
abbrev pub AreShown : Option ℕ → List LineValue → List LineValue → Type 0
AreShown None lines shown = shown ≡ lines
AreShown (Some count) lines shown = cond (nat_lt count (length lines)) (AreFirst count lines shown) (shown ≡ lines)
