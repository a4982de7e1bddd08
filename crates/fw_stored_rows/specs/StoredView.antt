-- The rows that are stored, and what is kept of them.
use Rattle.std.specs.Prelude.{◌≡◌, List, length}
use Rattle.fw_charge.specs.Charge.{Charge}
use Rattle.fw_posted.specs.Rows.{segment_rows}
use Rattle.fw_stored_rows.specs.Starts.{AreStarts}
use Rattle.fw_stored_rows.specs.declared.stored.StoredRows.TheInside.{Inside}

abbrev pub stored_view : Inside → List Charge
stored_view s = segment_rows s.segments

-- the rows are counted, and for each segment it is known how many stand before it
pub record KeepsStarts (s : Inside) : Type 0 where
  pub starts : AreStarts s.starts.items s.segments
  pub rows : s.rows ≡ length (segment_rows s.segments)
