-- How the code of a group is found among the places of tags. The private functions of the crate cite it.
use Rattle.std.specs.Prelude.{ℕ, ◌+◌, ◌==◌, if◌then◌else◌, List, [], ◌∷◌, unwrap_or}
use Rattle.fw_row_table.specs.Names.{Text}
use Rattle.fw_row_table.specs.Table.{text_of}

-- the code of the group under the key of a place: 0 where no tag has the key, or its value is at the place of the empty text; else 1 more than
-- the place of its value
unfoldable pub found_code : ℕ → ℕ → List ℕ → ℕ
found_code key empty [] = 0
found_code key empty (k ∷ []) = 0
found_code key empty (k ∷ value ∷ places) = if k == key then (if value == empty then 0 else 1 + value) else found_code key empty places

-- the text of the group with a code
unfoldable pub group_at : List Text → ℕ → Text
group_at names code = unwrap_or (text_of names code) []
