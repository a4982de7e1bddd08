-- How the tags of rows are kept: a list of tags as the list of the places of its texts, and each such list once. A list of places is numbered
-- as a text is, since both are lists of numbers. The private functions of the crate cite it.
use Rattle.std.specs.Prelude.{ℕ, List, [], map}
use Rattle.fw_charge.specs.Tags.{TagText}
use Rattle.fw_charge.specs.Charge.{Charge}
use Rattle.fw_row_table.specs.Names.{Text, place_of}
use Rattle.fw_row_table.specs.Texts.{names_of, texts_of_tags, with_texts}

-- what tags are kept as: the place of each key, and behind it that of its value
unfoldable pub tag_places : List Text → List TagText → List ℕ
tag_places names tags = map (place_of names) (texts_of_tags tags)

-- what the tags of each row are kept as
unfoldable pub lists_of : List Text → List Charge → List (List ℕ)
lists_of names rows = map (λ c. tag_places names c.tags) rows

-- what the tags of rows are kept as, each once and in the order in which it is first seen
abbrev pub tag_lists : List Charge → List (List ℕ)
tag_lists rows = with_texts [] (lists_of (names_of rows) rows)
