use Rattle.std.proofs.Common.{◌≡◌, filter, map, take}
use Rattle.fw_coverage.specs.Tallies.{coverage_from}
use Rattle.fw_coverage.proofs.covering.coverage_from.Given as goal

-- of those so far
abbrev pub invariant-loop-tally : goal.invariant-loop-tally
invariant-loop-tally l = l.found.items ≡ map coverage_from (filter (λ t. t.sums.shown) (take l.tally-index l.tallies))
