use Rattle.std.proofs.Common.{◌≡◌, ◌<◌, map, take, vec_len}
use Rattle.fw_cover.specs.Offers.{offer_of, table_of, table_view}
use Rattle.fw_cover.proofs.offers.table.Given as goal

-- the offers so far are in the lists of their SKUs
abbrev pub invariant-loop-offer : goal.invariant-loop-offer
invariant-loop-offer l = record { value : table_view l.table.items ≡ table_of (vec_len l.table) (map offer_of (take l.offer-index l.offer-items)); some : 0 < vec_len l.table }
