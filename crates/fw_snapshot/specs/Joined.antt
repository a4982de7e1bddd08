-- A state whose short segments are joined, with these segments.
use Rattle.std.specs.Prelude.{⊤, ◌+◌, ◌<◌, List, [], ◌∷◌, length}
use Rattle.fw_charge.specs.Charge.{Charge}
use Rattle.fw_row_table.specs.Table.{most_column_rows}
use Rattle.fw_snapshot.specs.History.{History}

pub record JoinedValue : Type 0 where
  pub history : History
  pub segments : List (List Charge)

-- no two segments that follow each other have room in one of 65,536 rows
unfoldable pub AreFull : List (List Charge) → Type 0
AreFull [] = ⊤
AreFull (s ∷ []) = ⊤
AreFull (s ∷ next ∷ rest) = (most_column_rows < length s + length next) × AreFull (next ∷ rest)
