use Rattle.std.proofs.Common.{◌≡◌, map, take}
use Rattle.fw_cover.specs.Offers.{sku_offers}
use Rattle.fw_cover.specs.RosterView.{offers_of_row}
use Rattle.fw_cover.proofs.roster.Roster.offers_of_rows.Given as goal

abbrev pub invariant-loop-row : goal.invariant-loop-row
invariant-loop-row l = map sku_offers l.offers.items ≡ map (offers_of_row l.self) (map (λ r. r.now) (take l.row-index l.rows))
