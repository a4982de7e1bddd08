use Rattle.std.proofs.Common.{◌-◌, ◌≤◌, length}
use Rattle.fw_cut.proofs.CutFacts.{Scanned}
use Rattle.fw_cut.proofs.cutting.cut_off.Given as goal

abbrev pub invariant-loop-at : goal.invariant-loop-at
invariant-loop-at l = (l.at ≤ length l.text) × Scanned l.text l.most l.at l.place l.cut

abbrev pub decreases-loop-at : goal.decreases-loop-at
decreases-loop-at l = length l.text - l.at
