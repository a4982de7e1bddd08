use Rattle.std.proofs.Common.{◌+◌, arith, rules, ℕ, ℤ, take}
use Rattle.fw_lanes.specs.Masked.{masked_sum_of}
use Rattle.fw_lanes.proofs.Halves.{lane_next, eight_lanes}
use Rattle.fw_lanes.proofs.sums.load.Goals as goal

pub returns-clause-sum : goal.returns-clause-sum
returns-clause-sum c =
    let vs = c.args.values.now in
    let ms = c.args.mask.now in
    let i = c.args.at in
    let s0 = lane_next vs ms i (i + 1) c.lane.result (omega arith) (omega arith) (omega arith) (search rules) c.lane.ensures in
    let s1 = lane_next vs ms (i + 1) (i + 2) c.lane-2.result (omega arith) (omega arith) (omega arith) (search rules) c.lane-2.ensures in
    let s2 = lane_next vs ms (i + 2) (i + 3) c.lane-3.result (omega arith) (omega arith) (omega arith) (search rules) c.lane-3.ensures in
    let s3 = lane_next vs ms (i + 3) (i + 4) c.lane-4.result (omega arith) (omega arith) (omega arith) (search rules) c.lane-4.ensures in
    let s4 = lane_next vs ms (i + 4) (i + 5) c.lane-5.result (omega arith) (omega arith) (omega arith) (search rules) c.lane-5.ensures in
    let s5 = lane_next vs ms (i + 5) (i + 6) c.lane-6.result (omega arith) (omega arith) (omega arith) (search rules) c.lane-6.ensures in
    let s6 = lane_next vs ms (i + 6) (i + 7) c.lane-7.result (omega arith) (omega arith) (omega arith) (search rules) c.lane-7.ensures in
    let s7 = lane_next vs ms (i + 7) (i + 8) c.lane-8.result (omega arith) (omega arith) (omega arith) (search rules) c.lane-8.ensures in
    let m : ℕ → ℤ = λ k. masked_sum_of (take k vs) (take k ms) in
    eight_lanes (m i) (m (i + 1)) (m (i + 2)) (m (i + 3)) (m (i + 4)) (m (i + 5)) (m (i + 6)) (m (i + 7)) (m (i + 8)) c.lane.result c.lane-2.result c.lane-3.result c.lane-4.result c.lane-5.result c.lane-6.result c.lane-7.result c.lane-8.result s0 s1 s2 s3 s4 s5 s6 s7
