use Rattle.std.proofs.Common.{◌≡◌, length, take}
use Rattle.fw_snapshot.specs.History.{rows_posted}
use Rattle.fw_past.proofs.past.rows_of_first.Given as goal

-- the rows of the entries so far
abbrev pub invariant-loop-place : goal.invariant-loop-place
invariant-loop-place l = l.rows ≡ length (rows_posted (take l.place l.state.entries))
