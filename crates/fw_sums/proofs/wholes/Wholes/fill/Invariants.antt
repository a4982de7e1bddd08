use Rattle.std.proofs.Common.{◌≡◌, length, take}
use Rattle.fw_sums.specs.Hours.{all_rows, lent}
use Rattle.fw_sums.specs.Wholes.{AreWholes}
use Rattle.fw_sums.proofs.wholes.Wholes.fill.Given as goal

-- what is kept is of the segments' rows as before, and so many rows are in the segments so far
abbrev pub invariant-loop-segment : goal.invariant-loop-segment
invariant-loop-segment l = record {
  kept : AreWholes l.key (all_rows (lent l.segments)) l.initial.self → AreWholes l.key (all_rows (lent l.segments)) l.self;
  at : l.first ≡ length (all_rows (take l.segment-index (lent l.segments)));
}
