use Rattle.std.proofs.Common.{◌≡◌, ◌+◌, ◌≤◌, drop, map}
use Rattle.fw_posted.specs.Merging.{joined_to}
use Rattle.fw_posted.proofs.merging.joined_to.Given as goal
use Rattle.fw_row_table.specs.Table.{most_column_rows}

-- the segments so far are joined, and those of the others that fit beside their rows
abbrev pub invariant-loop-count : goal.invariant-loop-count
invariant-loop-count l = (l.rows ≤ most_column_rows) × (joined_to l.initial.rows (map (λ s. s.now) l.segments) ≡ l.count + joined_to l.rows (drop l.count (map (λ s. s.now) l.segments)))
