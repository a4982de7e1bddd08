use Rattle.std.proofs.Common.{◌≡◌, List, map, take, vec_len}
use Rattle.std.specs.List.{enumerate_from, flat_map}
use Rattle.fw_cover.specs.Offers.{OfferValue, pairs_with, row_offers, sku_offers}
use Rattle.fw_cover.specs.Ranked.{by_rank}
use Rattle.fw_cover.proofs.matching.pairs_by_rank.Given as goal

abbrev pub invariant-loop-at : goal.invariant-loop-at
invariant-loop-at l = record {
  pairs : (table : List (List OfferValue)) → map sku_offers l.offers ≡ map (row_offers table) (map (λ r. r.now) l.rows)
      → map (λ l. l.items) l.lists.items ≡ by_rank l.ranks (flat_map (pairs_with l.hour table) (enumerate_from 0 (map (λ r. r.now) (take l.at l.rows))));
  many : vec_len l.lists ≡ l.ranks;
}
