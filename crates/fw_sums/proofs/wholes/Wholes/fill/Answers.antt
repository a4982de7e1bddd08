use Rattle.fw_sums.specs.Hours.{all_rows, lent}
use Rattle.fw_sums.proofs.WholeFacts.{next_first, rows_here}
use Rattle.fw_sums.proofs.wholes.Wholes.fill.Goals as goal

pub loop-segment-preserved : goal.loop-segment-preserved
loop-segment-preserved c =
    let segments = c.args.segments.now in
    let i = c.loop-segment.segment-index in
    let here = rows_here segments i c.segment-item.result c.loop-segment-test.true c.segment-item.is c.loop-segment.first c.len.result c.loop-segment.invariant.at c.len.ensures.count in
    record {
      kept = λ before. c.keep_segment.ensures (all_rows (lent segments)) here (c.loop-segment.invariant.kept before);
      at = next_first segments i c.segment-item.result c.loop-segment-test.true c.segment-item.is c.loop-segment.first c.len.result c.loop-segment.invariant.at c.len.ensures.count c.in-Some.behind c.in-Some.ensures.1;
    }

pub returns-in-None : goal.returns-in-None
returns-in-None c = λ before.
    let segments = c.args.segments.now in
    let here = rows_here segments c.loop-segment.segment-index c.segment-item.result c.loop-segment-test.true c.segment-item.is c.loop-segment.first c.len.result c.loop-segment.invariant.at c.len.ensures.count in
    c.keep_segment.ensures (all_rows (lent segments)) here (c.loop-segment.invariant.kept before)
