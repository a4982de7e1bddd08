use Rattle.std.proofs.Common.{◌≡◌, take}
use Rattle.std.specs.List.{filter_map}
use Rattle.fw_sums.specs.Hours.{lent, row_at}
use Rattle.fw_sums.proofs.segments.rows_lent.Given as goal

-- the rows at the places so far
abbrev pub invariant-loop-at : goal.invariant-loop-at
invariant-loop-at l = l.rows.items ≡ filter_map (row_at (lent l.segments)) (take l.at-index l.places)
