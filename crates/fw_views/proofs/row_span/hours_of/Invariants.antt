use Rattle.std.proofs.Common.{map, take}
use Rattle.fw_posted.specs.Rows.{segment_rows}
use Rattle.fw_views.specs.RowSpan.{AreEnds, start_hours}
use Rattle.fw_views.proofs.row_span.hours_of.Given as goal

-- the ends are those of the segments so far
abbrev pub invariant-loop-columns : goal.invariant-loop-columns
invariant-loop-columns l = AreEnds (start_hours (segment_rows (map (λ s. s.now) (take l.columns-index l.segments)))) l.found
