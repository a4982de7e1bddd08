-- The values that most rows have.
use Rattle.std.specs.Prelude.{◌≡◌, ◌+◌, ℕ, Bool, List, fold, map, take}
use Rattle.std.specs.Borrow.{Bor}
use Rattle.std.specs.List.Sorted.{IsPermutation, IsSortedBy, IsStableBy}
use Rattle.std.specs.Ordering.{nat_cmp, is_lt}
use Rattle.fw_check.specs.Counts.{kept}

-- how many rows have one of these values
abbrev pub rows_of : List (List ℕ × ℕ) → ℕ
rows_of values = fold (λ rows value. kept (rows + value.1)) 0 values

-- a value, and how many rows have it
abbrev pub shown : Bor (List ℕ) × ℕ → List ℕ × ℕ
shown value = (value.0.now, value.1)

-- a value that more rows have comes first
abbrev pub comes_first : Bor (List ℕ) × ℕ → Bor (List ℕ) × ℕ → Bool
comes_first a b = is_lt (nat_cmp b.1 a.1)

-- values in falling order of how many rows have them; those that as many have stay in their order
pub record IsRanking (values : List (List ℕ × ℕ)) (ranked : List (Bor (List ℕ) × ℕ)) : Type 0 where
  pub lent : List (Bor (List ℕ) × ℕ)
  pub lent_are : map shown lent ≡ values
  pub same : IsPermutation lent ranked
  pub falling : IsSortedBy comes_first ranked
  pub stable : IsStableBy comes_first lent ranked

-- at most so many values are shown
abbrev pub most_shown : ℕ
most_shown = 10

-- the first values of the ranking
pub record AreMostFrequent (values : List (List ℕ × ℕ)) (most : List (Bor (List ℕ) × ℕ)) : Type 0 where
  pub ranked : List (Bor (List ℕ) × ℕ)
  pub ranking : IsRanking values ranked
  pub most_are : most ≡ take most_shown ranked
