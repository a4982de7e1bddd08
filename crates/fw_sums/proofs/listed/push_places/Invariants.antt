use Rattle.std.proofs.Common.{◌≡◌, ◌++◌, take}
use Rattle.fw_sums.specs.Hours.{row_places}
use Rattle.fw_sums.proofs.listed.push_places.Given as goal

-- the rows at the places so far are added
abbrev pub invariant-loop-place : goal.invariant-loop-place
invariant-loop-place l = l.listed.items ≡ l.initial.listed.items ++ row_places l.segment (take l.place-index l.places)
