use Rattle.std.proofs.Common.{◌≡◌, take}
use Rattle.fw_sums.specs.Hours.{lent, rows_at}
use Rattle.fw_sums.proofs.segments.rows_at.Given as goal

-- the rows at the places so far
abbrev pub invariant-loop-at : goal.invariant-loop-at
invariant-loop-at l = l.rows.items ≡ rows_at (lent l.segments) (take l.at-index l.places)
