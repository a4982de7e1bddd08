use Rattle.std.proofs.Common.{◌≡◌, ◌++◌, map, take, Some}
use Rattle.fw_cover.specs.Offers.{offer_of, offer_for}
use Rattle.fw_cover.specs.PlacedView.{placed_of}
use Rattle.fw_cover.proofs.offers.add_rates.Given as goal

abbrev pub invariant-loop-rate : goal.invariant-loop-rate
invariant-loop-rate l = map offer_of l.offers.items ≡ map offer_of l.fn.offers.items ++ map (λ r. offer_for (l.rank, placed_of l.placed) (record { sku = r.sku; rate = Some r.ppm })) (take l.rate-index l.rates)
