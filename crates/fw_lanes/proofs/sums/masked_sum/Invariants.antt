use Rattle.std.proofs.Common.{take}
use Rattle.fw_lanes.specs.Halves.{AreHalvesOf}
use Rattle.fw_lanes.proofs.sums.masked_sum.Given as goal

abbrev pub invariant-loop-at : goal.invariant-loop-at
invariant-loop-at l = AreHalvesOf (take l.at l.values) (take l.at l.mask) l.at l.low l.high
