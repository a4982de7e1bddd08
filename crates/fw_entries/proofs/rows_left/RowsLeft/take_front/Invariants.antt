use Rattle.std.proofs.Common.{◌≡◌, ◌+◌, ◌-◌, ◌≤◌, ◌++◌, length}
use Rattle.fw_entries.specs.RowsLeft.{rows_left}
use Rattle.fw_entries.proofs.rows_left.RowsLeft.take_front.Given as goal

-- the rows so far, and those that are left behind them, are what was left
abbrev pub invariant-loop-front : goal.invariant-loop-front
invariant-loop-front l = (rows_left l.fn.self ≡ l.front ++ rows_left l.self) × (length l.front ≤ l.count)

-- each turn takes a row, or goes on to the next segment
abbrev pub decreases-loop-front : goal.decreases-loop-front
decreases-loop-front l = length (rows_left l.self) + (length l.self.segments.now - l.self.segment)
