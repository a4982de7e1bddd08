use Rattle.std.proofs.Common.{◌≡◌, ◌-◌, ◌++◌, []}
use Rattle.std.specs.Prelude.{unwrap_or}
use Rattle.fw_bytes.specs.Reading.{seen, times}
use Rattle.fw_posted.specs.Rows.{segment_rows}
use Rattle.fw_segment.specs.Segments.{segment_at}
use Rattle.fw_segment.proofs.RowsLoop.{with_rows}
use Rattle.fw_segment.proofs.states.segments_after.Given as goal

-- the rows so far, and what is still read of the rest, are what is read of all
abbrev pub invariant-loop : goal.invariant-loop
invariant-loop l = with_rows (segment_rows l.segments ++ unwrap_or l.last []) (times segment_at (l.count - l.counter) l.rest) ≡ seen segment_rows (times segment_at l.count) l.bytes
