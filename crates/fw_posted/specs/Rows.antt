-- Rows that stand in segments.
use Rattle.std.specs.Prelude.{ℕ, List, length, take}
use Rattle.std.specs.List.{flat_map}
use Rattle.fw_charge.specs.Charge.{Charge}

-- the rows of all segments, in order
abbrev pub segment_rows : List (List Charge) → List Charge
segment_rows segments = flat_map (λ rows. rows) segments

-- how many rows stand before the segment at a place, counted from 0
abbrev pub rows_before_segment : List (List Charge) → ℕ → ℕ
rows_before_segment segments place = length (segment_rows (take place segments))
