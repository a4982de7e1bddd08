use Rattle.std.proofs.Common.{◌≡◌, ◌≤◌, ◌++◌, length, take}
use Rattle.fw_entries.proofs.entries_left.have_rows.Given as goal

-- the rows before the place were met, and the others are left
abbrev pub invariant-loop-run : goal.invariant-loop-run
invariant-loop-run l = (l.fn.runs ≡ take l.place l.rows ++ l.runs) × (l.place ≤ length l.rows)

-- each turn takes a run
abbrev pub decreases-loop-run : goal.decreases-loop-run
decreases-loop-run l = length l.runs
