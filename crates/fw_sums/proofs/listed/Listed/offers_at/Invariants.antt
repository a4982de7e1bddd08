use Rattle.std.proofs.Common.{◌≡◌, map, take}
use Rattle.std.specs.List.{filter_map}
use Rattle.fw_cover.specs.Offers.{sku_offers}
use Rattle.fw_cover.specs.RosterView.{offers_of_row}
use Rattle.fw_sums.specs.Hours.{lent, row_at}
use Rattle.fw_sums.proofs.listed.Listed.offers_at.Given as goal

-- those of the rows at the places so far
abbrev pub invariant-loop-at : goal.invariant-loop-at
invariant-loop-at l = map sku_offers l.offers.items ≡ map (offers_of_row l.roster) (filter_map (row_at (lent l.segments)) (take l.at-index l.places))
