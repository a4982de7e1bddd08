-- Segments that are joined from the front, each with the next one, as long as they have at most 65,536 rows together.
use Rattle.std.specs.Prelude.{ℕ, suc, ◌+◌, nat_le, List, [], ◌∷◌, ◌++◌, length, if◌then◌else◌}
use Rattle.fw_charge.specs.Charge.{Charge}
use Rattle.fw_row_table.specs.Table.{most_column_rows}

-- how many of the segments that come next are joined to so many rows
unfoldable pub joined_to : ℕ → List (List Charge) → ℕ
joined_to n [] = 0
joined_to n (s ∷ rest) = if nat_le (n + length s) most_column_rows then suc (joined_to (n + length s) rest) else 0

-- rows, joined with the segments that come next, and the others joined among themselves
unfoldable pub merged_from : List Charge → List (List Charge) → List (List Charge)
merged_from rows [] = rows ∷ []
merged_from rows (s ∷ rest) = if nat_le (length rows + length s) most_column_rows then merged_from (rows ++ s) rest else (rows ∷ merged_from s rest)

unfoldable pub merged : List (List Charge) → List (List Charge)
merged [] = []
merged (s ∷ rest) = merged_from s rest
