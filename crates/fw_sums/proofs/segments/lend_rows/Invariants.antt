use Rattle.std.proofs.Common.{◌≡◌, ◌++◌, take}
use Rattle.fw_sums.specs.Hours.{rows_of_places}
use Rattle.fw_sums.proofs.segments.lend_rows.Given as goal

-- the rows at the places so far
abbrev pub invariant-loop-place : goal.invariant-loop-place
invariant-loop-place l = l.rows.items ≡ l.initial.rows.items ++ rows_of_places l.segment (take l.place-index l.places)
