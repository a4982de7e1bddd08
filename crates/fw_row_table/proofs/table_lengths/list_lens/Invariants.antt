use Rattle.std.proofs.Common.{◌≡◌, length, map, take}
use Rattle.std.specs.List.{flat_map}
use Rattle.fw_charge.specs.Spelling.{tag}
use Rattle.fw_row_table.specs.Table.{tags_of}
use Rattle.fw_row_table.proofs.table_lengths.list_lens.Given as goal

abbrev pub invariant-loop-code : goal.invariant-loop-code
invariant-loop-code l = l.lens.items ≡ map (λ list. length (flat_map tag (tags_of l.names list))) (take l.code l.lists)
