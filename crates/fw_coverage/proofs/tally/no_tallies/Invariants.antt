use Rattle.std.proofs.Common.{◌≡◌, map, take}
use Rattle.std.specs.List.{enumerate_from}
use Rattle.fw_coverage.specs.Tallies.{no_tally}
use Rattle.fw_coverage.proofs.tally.no_tallies.Given as goal

-- those of the commitments so far
abbrev pub invariant-loop-place : goal.invariant-loop-place
invariant-loop-place l = l.tallies.items ≡ map no_tally (enumerate_from 0 (take l.place l.commitments))
