use Rattle.std.proofs.Common.{◌≡◌, ◌*◌, length, take}
use Rattle.std.specs.Simd.Lanes.{sum_l}
use Rattle.fw_lanes.specs.Halves.{AreHalvesOf}
use Rattle.fw_lanes.proofs.sums.block_halves.Given as goal

abbrev pub invariant-loop-block : goal.invariant-loop-block
invariant-loop-block l = (length l.low ≡ 8) × (length l.high ≡ 8) × AreHalvesOf (take (8 * l.block) l.values) (take (8 * l.block) l.mask) (8 * l.block) (sum_l l.low) (sum_l l.high)
