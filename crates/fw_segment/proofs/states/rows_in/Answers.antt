use Rattle.std.proofs.Common.{arith}
use Rattle.fw_snapshot.proofs.BuildingFacts.{after_segment}
use Rattle.fw_segment.proofs.states.rows_in.Goals as goal

pub loop-place-preserved : goal.loop-place-preserved
loop-place-preserved c =
    let more = after_segment c.args.segments.now c.loop-place.place c.get.result.now c.get.ensures in
    (omega (arith, more, c.len.ensures.count, c.loop-place.invariant.0), omega (arith, c.len.ensures.few, c.loop-place.invariant.1))
