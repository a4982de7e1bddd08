use Rattle.std.proofs.Common.{◌≡◌, ◌-◌, length}
use Rattle.fw_entries.specs.RowsLeft.{rows_left}
use Rattle.fw_entries.proofs.rows_left.RowsLeft.next_run.Given as goal

-- segments are passed over of which no row is left
abbrev pub invariant-loop-self : goal.invariant-loop-self
invariant-loop-self l = rows_left l.fn.self ≡ rows_left l.self

-- each turn goes on to the next segment
abbrev pub decreases-loop-self : goal.decreases-loop-self
decreases-loop-self l = length l.self.segments.now - l.self.segment
