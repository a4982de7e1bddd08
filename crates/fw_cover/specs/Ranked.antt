-- A pair beside the place of its commitment in the order. Private functions cite it.
use Rattle.std.specs.Prelude.{ℕ, ◌==◌, Bool, List, filter, map, unwrap_or}
use Rattle.std.specs.List.{range_with_len}
use Rattle.std.specs.Ordering.{is_lt, nat_cmp, ordering_then}
use Rattle.std.specs.declared.cmp.Ordering.{Ordering}
use Rattle.fw_cover.specs.declared.pair.Pair.{Pair}

pub record RankedPair : Type 0 where
  pub rank : ℕ
  pub pair : Pair

-- by the order of the commitments, then by lower rate
unfoldable pub compare_ranked : RankedPair → RankedPair → Ordering
compare_ranked p q = ordering_then (nat_cmp p.rank q.rank) (nat_cmp (unwrap_or p.pair.rate 0) (unwrap_or q.pair.rate 0))

abbrev pub ranked_before : RankedPair → RankedPair → Bool
ranked_before p q = is_lt (compare_ranked p q)

-- the pairs of the commitment at a place of the order, in turn
unfoldable pub of_rank : List RankedPair → ℕ → List Pair
of_rank all rank = map (λ q. q.pair) (filter (λ q. q.rank == rank) all)

-- the pairs of each of so many commitments in a list of their own
abbrev pub by_rank : ℕ → List RankedPair → List (List Pair)
by_rank ranks all = map (of_rank all) (range_with_len 0 ranks)
