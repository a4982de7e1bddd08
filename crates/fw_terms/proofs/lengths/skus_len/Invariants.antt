use Rattle.std.proofs.Common.{◌≡◌, ◌≤◌, ◌+◌, ◌*◌, length, map, string_bytes, take}
use Rattle.std.specs.List.{flat_map}
use Rattle.fw_bytes.specs.Spelling.{text}
use Rattle.fw_terms.specs.Lengths.{most_name_len}
use Rattle.fw_terms.proofs.lengths.skus_len.Given as goal

abbrev pub invariant-loop-sku : goal.invariant-loop-sku
invariant-loop-sku l = (l.len ≡ 4 + length (flat_map text (map string_bytes (take l.sku-index l.skus)))) × (l.len ≤ 4 + most_name_len * l.sku-index)
