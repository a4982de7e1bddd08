-- Segments: rows that are stored together.
use Rattle.std.specs.Prelude.{◌<◌, ◌≤◌, ℕ, zero, suc, List, [], ◌∷◌, length, All, Err}
use Rattle.fw_bytes.specs.Spelling.{listed}
use Rattle.fw_bytes.specs.Reading.{Reading, list_at}
use Rattle.fw_charge.specs.Charge.{Charge}
use Rattle.fw_charge.specs.Spelling.{row, IsRow}
use Rattle.fw_row_bytes.specs.Reading.{row_at}
use Rattle.fw_column_bytes.specs.Spelling.{columns}
use Rattle.fw_column_bytes.specs.Reading.{columns_at}
use Rattle.fw_segment.specs.declared.layout.SegmentLayout.{SegmentLayout}
use Rattle.fw_segment.specs.declared.layout.SegmentLayout.TheVariants.{Rows, Columns}
use Rattle.fw_row_table.specs.Table.{most_column_rows}

-- a byte for how the rows are laid out, their number, and the rows in this layout: each in turn, or column after column behind their texts
unfoldable pub segment : SegmentLayout → List Charge → List ℕ
segment Rows rows = 1 ∷ listed row rows
segment Columns rows = columns rows

-- 1 to 65,536 rows, each of which has a spelling
pub record IsSegment (rows : List Charge) : Type 0 where
  pub some : 0 < length rows
  pub few : length rows ≤ most_column_rows
  pub each : All IsRow rows

-- a layout that isn't known is a fault at its byte
unfoldable pub segment_at : Reading (List Charge)
segment_at [] = Err 0
segment_at (zero ∷ rest) = Err (suc (length rest))
segment_at (suc zero ∷ rest) = list_at 1 most_column_rows row_at rest
segment_at (suc (suc zero) ∷ rest) = columns_at (2 ∷ rest)
segment_at (suc (suc (suc layout)) ∷ rest) = Err (suc (length rest))
