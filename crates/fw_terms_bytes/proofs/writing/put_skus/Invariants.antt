use Rattle.std.proofs.Common.{◌≡◌, ◌++◌, length, map, string_bytes, take}
use Rattle.std.specs.List.{flat_map}
use Rattle.fw_bytes.specs.Spelling.{number32, text}
use Rattle.fw_terms_bytes.proofs.writing.put_skus.Given as goal

abbrev pub invariant-loop-sku : goal.invariant-loop-sku
invariant-loop-sku l = l.out.items ≡ l.fn.out.items ++ (number32 (length l.skus) ++ flat_map text (map string_bytes (take l.sku-index l.skus)))
