-- The groups that are charged most.
use Rattle.std.specs.Prelude.{◌≡◌, ℕ, Bool, List, map, take}
use Rattle.std.specs.Borrow.{Bor}
use Rattle.std.specs.List.Sorted.{IsPermutation, IsSortedBy, IsStableBy}
use Rattle.std.specs.Ordering.{int_cmp, is_lt}
use Rattle.fw_query.specs.Reports.{EntryValue}

-- a group that is charged more comes first
abbrev pub comes_first : Bor EntryValue → Bor EntryValue → Bool
comes_first a b = is_lt (int_cmp b.now.charged a.now.charged)

-- the same entries, those that are charged most first; entries that are charged alike keep their order
pub record IsRanking (entries : List EntryValue) (ranked : List (Bor EntryValue)) : Type 0 where
  pub lent : List (Bor EntryValue)
  pub lent_are : map (λ e. e.now) lent ≡ entries
  pub same : IsPermutation lent ranked
  pub falling : IsSortedBy comes_first ranked
  pub stable : IsStableBy comes_first lent ranked

-- the groups of the first so many of the ranking
pub record AreMostCharged (count : ℕ) (entries : List EntryValue) (names : List (List ℕ)) : Type 0 where
  pub ranked : List (Bor EntryValue)
  pub ranking : IsRanking entries ranked
  pub names_are : names ≡ map (λ e. e.now.group) (take count ranked)
