use Rattle.std.proofs.Common.{◌≡◌, ◌++◌, List, map, take, vec_len}
use Rattle.std.specs.List.{filter_map}
use Rattle.fw_cover.specs.Offers.{offer_of, pair_by}
use Rattle.fw_cover.specs.Ranked.{RankedPair, by_rank}
use Rattle.fw_cover.proofs.matching.add_pairs.Given as goal

abbrev pub invariant-loop-offer : goal.invariant-loop-offer
invariant-loop-offer l = record {
  pairs : (all : List RankedPair) → map (λ list. list.items) l.fn.lists.items ≡ by_rank (vec_len l.fn.lists) all
      → map (λ list. list.items) l.lists.items ≡ by_rank (vec_len l.fn.lists) (all ++ filter_map (pair_by l.hour (l.at, l.row)) (map offer_of (take l.offer-index l.offers)));
  many : vec_len l.lists ≡ vec_len l.fn.lists;
}
