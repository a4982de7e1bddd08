use Rattle.std.proofs.Common.{◌≡◌, take, map, string_bytes}
use Rattle.fw_terms.proofs.copies.copy_skus.Given as goal

abbrev pub invariant-loop-sku : goal.invariant-loop-sku
invariant-loop-sku l = map string_bytes l.copies.items ≡ map string_bytes (take l.sku-index l.skus)
