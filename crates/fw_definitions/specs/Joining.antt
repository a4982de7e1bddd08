-- Segments that are joined, without a word on how.
use Rattle.std.specs.Prelude.{◌≡◌, ⊤, ◌+◌, ◌<◌, ◌≤◌, List, [], ◌∷◌, length, map}
use Rattle.std.specs.List.{flat_map}
use Rattle.fw_charge.specs.Charge.{Charge}
use Rattle.fw_posted.specs.Rows.{segment_rows}
use Rattle.fw_row_table.specs.Table.{most_column_rows}

-- segments that stand next to each other
abbrev pub Run : Type 0
Run = List (List Charge)

abbrev pub first_segment : Run → List Charge
first_segment [] = []
first_segment (s ∷ run) = s

-- there is a segment, and where there are more they have no more rows together than one may have
abbrev pub IsRun : Run → Type 0
IsRun run = (0 < length run) × (1 < length run → length (segment_rows run) ≤ most_column_rows)

-- each is a run, behind which the first segment of the next one has no room
abbrev pub AreLongest : List Run → Type 0
AreLongest [] = ⊤
AreLongest (run ∷ []) = IsRun run
AreLongest (run ∷ next ∷ runs) = IsRun run × (most_column_rows < length (segment_rows run) + length (first_segment next)) × AreLongest (next ∷ runs)

-- the segments are cut into such runs, and the rows of each are one of those that are joined
pub record AreJoined (segments joined : List (List Charge)) : Type 0 where
  pub runs : List Run
  pub cut : segments ≡ flat_map (λ run. run) runs
  pub is : joined ≡ map segment_rows runs
  pub longest : AreLongest runs
