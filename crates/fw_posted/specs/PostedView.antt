-- The rows that were posted, and what is kept of them.
use Rattle.std.specs.Prelude.{◌≡◌, length}
use Rattle.fw_posted.specs.Marks.{selected}
use Rattle.fw_posted.specs.Parts.{all_marks, AreParts}
use Rattle.fw_posted.specs.Rows.{segment_rows}
use Rattle.fw_posted.specs.declared.posted.PostedRows.TheInside.{Inside}
use Rattle.fw_posted.specs.Posted.{PostedValue}

abbrev pub posted_value : Inside → PostedValue
posted_value p = record { segments = p.segments; counts = all_marks p.parts }

-- each segment has its part, and the rows are counted
pub record KeepsPosted (p : Inside) : Type 0 where
  pub parts : AreParts 0 p.parts p.segments
  pub rows : p.rows ≡ length (segment_rows p.segments)
  pub counting : p.counting ≡ length (selected (all_marks p.parts) (segment_rows p.segments))
