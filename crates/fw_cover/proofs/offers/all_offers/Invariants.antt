use Rattle.std.proofs.Common.{◌≡◌, map, take}
use Rattle.std.specs.List.{enumerate_from, flat_map}
use Rattle.fw_cover.specs.Offers.{offer_of, offers_by}
use Rattle.fw_cover.specs.PlacedView.{placed_of}
use Rattle.fw_cover.proofs.offers.all_offers.Given as goal

abbrev pub invariant-loop-rank : goal.invariant-loop-rank
invariant-loop-rank l = map offer_of l.offers.items ≡ flat_map offers_by (enumerate_from 0 (map placed_of (take l.rank l.ordered)))
