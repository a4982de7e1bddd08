use Rattle.std.proofs.Common.{◌++◌, []}
use Rattle.std.specs.Prelude.{unwrap_or}
use Rattle.fw_bytes.specs.Reading.{seen, times}
use Rattle.fw_posted.specs.Rows.{segment_rows}
use Rattle.fw_segment.specs.Segments.{segment_at}
use Rattle.fw_segment.proofs.RowsLoop.{no_rows_yet, rows_go_on, rows_end, rows_are_done}
use Rattle.fw_segment.proofs.states.segments_after.Goals as goal

pub loop-init : goal.loop-init
loop-init c = rw c.new-segments.ensures (no_rows_yet c.args.count c.args.bytes.now)

pub returns-in-Err : goal.returns-in-Err
returns-in-Err c = rows_end c.in-Err.e (segment_rows c.loop.segments ++ unwrap_or c.loop.last []) c.args.count c.loop.counter c.loop.rest.now (seen segment_rows (times segment_at c.args.count) c.args.bytes.now) c.loop-test.true c.in-Err.ensures c.loop.invariant

pub loop-preserved : goal.loop-preserved
loop-preserved c =
    rw c.in_ok-before-in-Ok.ensures (rows_go_on (segment_rows c.loop.segments ++ unwrap_or c.loop.last []) c.args.count c.loop.counter c.loop.rest.now c.in-Ok.next c.in-Ok.after.now (seen segment_rows (times segment_at c.args.count) c.args.bytes.now) c.loop-test.true c.in-Ok.ensures c.loop.invariant)

pub returns : goal.returns
returns c =
    rw c.in_ok-segments.ensures (rows_are_done (segment_rows c.loop.segments ++ unwrap_or c.loop.last []) c.args.count c.loop.counter c.loop.rest.now (seen segment_rows (times segment_at c.args.count) c.args.bytes.now) c.loop-test.false c.loop.invariant)
