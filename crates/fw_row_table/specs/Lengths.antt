-- How many bytes texts and lists of tags are written in, by their codes.
use Rattle.std.specs.Prelude.{◌≡◌, ◌+◌, ◌∷◌, length, map}
use Rattle.std.specs.List.{flat_map}
use Rattle.fw_charge.specs.Spelling.{tag}
use Rattle.fw_row_table.specs.Table.{tags_of}
use Rattle.fw_row_table.specs.declared.table.Table.{Table}
use Rattle.fw_row_table.specs.declared.table_lengths.Lengths.{Lengths}

-- null is written in one byte, a text in five bytes beside its own, and the tags of a list one after the other
pub record AreLengths (l : Lengths) (t : Table) : Type 0 where
  pub texts : l.texts.items ≡ 1 ∷ map (λ name. 5 + length name) t.names
  pub lists : l.lists.items ≡ map (λ list. length (flat_map tag (tags_of t.names list))) t.lists
