use Rattle.fw_sums.specs.Hours.{lent}
use Rattle.fw_sums.proofs.HourFacts.{number_there, segment_there}
use Rattle.fw_sums.proofs.ListedFacts.{hour_step}
use Rattle.fw_sums.proofs.listed.Listed.places.Goals as goal

pub add_hour-requires : goal.add_hour-requires
add_hour-requires c = number_there c.args.segments.now c.args.places.now c.loop-at.at-index _ c.index-segments-at.result c.loop-at-test.true c.requires c.index-segments-at.is

pub loop-at-preserved : goal.loop-at-preserved
loop-at-preserved c =
    let segments = c.args.segments.now in
    let here = segment_there segments c.args.places.now c.loop-at.at-index _ c.index-segments-at.result c.loop-at-test.true c.requires c.index-segments-at.is in
    hour_step c.args.self.now (lent segments) c.args.places.now c.loop-at.at-index _ c.loop-at.listed.items _ c.loop-at-test.true c.loop-at.invariant (c.in_ok-add_hour.ensures (lent segments) here)
