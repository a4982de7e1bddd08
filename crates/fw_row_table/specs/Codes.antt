-- What a table holds in place of a text.
use Rattle.std.specs.Prelude.{ℕ, ◌+◌, List, Option, Some, None}
use Rattle.fw_row_table.specs.Names.{Text, place_of}

-- the code of a text that may be null: 0 for null, else 1 more than its place in the names
unfoldable pub text_code : List Text → Option Text → ℕ
text_code names None = 0
text_code names (Some text) = 1 + place_of names text
