use Rattle.std.proofs.Common.{◌-◌, ◌≤◌, length, take}
use Rattle.fw_cut.specs.Headers.{IsKept}
use Rattle.fw_cut.proofs.CutFacts.{Scanned}
use Rattle.fw_cut.proofs.stopping.cut_before.Given as goal

abbrev pub invariant-loop-at : goal.invariant-loop-at
invariant-loop-at l = (l.at ≤ length l.text) × Scanned l.text l.most l.at l.place l.cut × IsKept l.head (take l.cut.end l.text)

abbrev pub decreases-loop-at : goal.decreases-loop-at
decreases-loop-at l = length l.text - l.at
