use Rattle.std.proofs.Common.{◌≡◌, ℕ, List, length, take}
use Rattle.fw_sums.specs.Hours.{all_rows, lent}
use Rattle.fw_sums.specs.Wholes.{AreDivided, AreWholes}
use Rattle.fw_sums.proofs.groups.Groups.add_wholes.Given as goal

-- the rows of the segments so far are counted or left, and there are so many
abbrev pub invariant-loop-segment : goal.invariant-loop-segment
invariant-loop-segment l = record {
  divided : (key : List ℕ) → AreWholes key (all_rows (lent l.segments)) l.wholes → AreDivided key l.from l.to (all_rows (take l.segment-index (lent l.segments))) l.self (all_rows (lent l.others.items));
  at : l.first ≡ length (all_rows (take l.segment-index (lent l.segments)));
}
