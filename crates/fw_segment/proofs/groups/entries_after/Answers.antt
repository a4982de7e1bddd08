use Rattle.fw_bytes.specs.Reading.{times}
use Rattle.fw_bytes.proofs.Loop.{goes_on, ends, is_done}
use Rattle.fw_entry_bytes.specs.Reading.{entry_at}
use Rattle.fw_segment.proofs.groups.entries_after.Goals as goal

pub returns-in-Err : goal.returns-in-Err
returns-in-Err c = ends (entry_at c.args.form) c.in-Err.e c.loop.entries.items c.args.count c.loop.counter c.loop.rest.now (times (entry_at c.args.form) c.args.count c.args.bytes.now) c.loop-test.true c.in-Err.ensures c.loop.invariant

pub loop-preserved : goal.loop-preserved
loop-preserved c =
    rw c.in_ok-push-in-Ok.ensures.items (goes_on (entry_at c.args.form) c.loop.entries.items c.args.count c.loop.counter c.loop.rest.now c.in-Ok.entry c.in-Ok.after.now (times (entry_at c.args.form) c.args.count c.args.bytes.now) c.loop-test.true c.in-Ok.ensures c.loop.invariant)

pub returns : goal.returns
returns c = is_done (entry_at c.args.form) c.loop.entries.items c.args.count c.loop.counter c.loop.rest.now (times (entry_at c.args.form) c.args.count c.args.bytes.now) c.loop-test.false c.loop.invariant
