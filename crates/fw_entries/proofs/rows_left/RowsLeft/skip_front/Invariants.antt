use Rattle.std.proofs.Common.{◌≡◌, ◌-◌, drop, length}
use Rattle.fw_entries.specs.RowsLeft.{rows_left}
use Rattle.fw_entries.proofs.rows_left.RowsLeft.skip_front.Given as goal

-- without those that are still to be passed over, the rows are what they are to be
abbrev pub invariant-loop-self : goal.invariant-loop-self
invariant-loop-self l = drop l.left (rows_left l.self) ≡ drop l.count (rows_left l.fn.self)

-- each turn goes on to the next segment
abbrev pub decreases-loop-self : goal.decreases-loop-self
decreases-loop-self l = length l.self.segments.now - l.self.segment
