-- The rows of segments that aren't taken yet.
use Rattle.std.specs.Prelude.{ℕ, List, [], ◌∷◌, ◌++◌, drop}
use Rattle.fw_charge.specs.Charge.{Charge}
use Rattle.fw_posted.specs.Rows.{segment_rows}
use Rattle.fw_entries.specs.declared.rows_left.RowsLeft.{RowsLeft}

-- the rows of segments without so many of the first segment
unfoldable pub rows_behind : ℕ → List (List Charge) → List Charge
rows_behind taken [] = []
rows_behind taken (segment ∷ segments) = drop taken segment ++ segment_rows segments

-- the rows that are left
abbrev pub rows_left : RowsLeft → List Charge
rows_left rows = rows_behind rows.taken (drop rows.segment rows.segments.now)
