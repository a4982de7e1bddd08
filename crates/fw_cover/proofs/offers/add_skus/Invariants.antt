use Rattle.std.proofs.Common.{◌≡◌, ◌++◌, map, take, string_bytes, None}
use Rattle.fw_cover.specs.Offers.{offer_of, offer_for}
use Rattle.fw_cover.specs.PlacedView.{placed_of}
use Rattle.fw_cover.proofs.offers.add_skus.Given as goal

abbrev pub invariant-loop-sku : goal.invariant-loop-sku
invariant-loop-sku l = map offer_of l.offers.items ≡ map offer_of l.fn.offers.items ++ map (λ s. offer_for (l.rank, placed_of l.placed) (record { sku = string_bytes s; rate = None })) (take l.sku-index l.skus)
