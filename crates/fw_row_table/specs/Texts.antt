-- The texts of charge rows, and the names that they make.
use Rattle.std.specs.Prelude.{◌+◌, ◌*◌, ℕ, List, [], ◌∷◌, ◌++◌, option_map, option_to_list}
use Rattle.std.specs.List.{fold, flat_map}
use Rattle.fw_charge.specs.Tags.{TagText, most_tags}
use Rattle.fw_charge.specs.Charge.{Charge}
use Rattle.fw_row_table.specs.Names.{Text, with_text}

-- the names once texts were seen in turn
unfoldable pub with_texts : List Text → List Text → List Text
with_texts names texts = fold with_text names texts

-- the texts of tags in turn, each key before its value
unfoldable pub texts_of_tags : List TagText → List Text
texts_of_tags tags = flat_map (λ t. t.key ∷ t.value ∷ []) tags

-- the texts of a row in turn; a null is none
unfoldable pub texts_of : Charge → List Text
texts_of c =
    option_to_list (option_map (λ d. d.id) c.discount)
    ++ (option_to_list c.unit ++ (option_to_list c.sku ++ (option_to_list c.sub_account ++ texts_of_tags c.tags)))

-- the greatest number of texts of a row: id, unit, SKU and sub-account, and the key and the value of each tag
abbrev pub most_texts : ℕ
most_texts = 4 + 2 * most_tags

-- the names of rows: each of their texts once, in the order in which it first occurs when the rows are read in turn
unfoldable pub names_of : List Charge → List Text
names_of rows = with_texts [] (flat_map texts_of rows)
