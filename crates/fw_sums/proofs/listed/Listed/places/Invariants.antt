use Rattle.std.proofs.Common.{◌≡◌, filter, take}
use Rattle.fw_sums.specs.Hours.{lent, row_places_at}
use Rattle.fw_sums.specs.Listed.{may_be_listed}
use Rattle.fw_sums.proofs.listed.Listed.places.Given as goal

-- those of the rows of the hours so far
abbrev pub invariant-loop-at : goal.invariant-loop-at
invariant-loop-at l = l.listed.items ≡ filter (may_be_listed l.self (lent l.segments)) (row_places_at (lent l.segments) (take l.at-index l.places))
