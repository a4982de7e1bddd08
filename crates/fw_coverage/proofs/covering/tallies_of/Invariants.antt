use Rattle.std.proofs.Common.{◌≡◌, ◌+◌}
use Rattle.fw_sums.specs.Hours.{all_rows, lent}
use Rattle.fw_coverage.specs.Tallies.{AreTallies}
use Rattle.fw_coverage.proofs.covering.tallies_of.Given as goal

-- those after the hours so far
abbrev pub invariant-loop-places : goal.invariant-loop-places
invariant-loop-places l = record {
  tallies : AreTallies l.roster.commitments (all_rows (lent l.segments)) l.from l.places-index l.tallies.items;
  at : l.hour ≡ l.from + l.places-index;
}
