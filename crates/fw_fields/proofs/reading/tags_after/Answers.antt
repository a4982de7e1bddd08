use Rattle.std.proofs.lemmas.Result.{err_from_is_err_and}
use Rattle.fw_bytes.specs.Reading.{times}
use Rattle.fw_bytes.proofs.Loop.{goes_on, ends, is_done}
use Rattle.fw_fields.specs.Reading.{tag_at}
use Rattle.fw_fields.proofs.reading.tags_after.Goals as goal

pub returns-in_err-tag : goal.returns-in_err-tag
returns-in_err-tag c =
    let p = err_from_is_err_and c.from_residual.result c.from_residual.ensures.1 in
    rw (p.1, p.2) (ends tag_at c.in_err-tag.field-0.0 c.loop.tags.items c.args.count c.loop.counter c.loop.rest.now (times tag_at c.args.count c.args.bytes.now) c.loop-test.true c.in_err-tag.ensures c.loop.invariant)

pub loop-preserved : goal.loop-preserved
loop-preserved c =
    rw c.in_ok-push.ensures.items (goes_on tag_at c.loop.tags.items c.args.count c.loop.counter c.loop.rest.now c.in_ok-tag.tag c.in_ok-tag.after.now (times tag_at c.args.count c.args.bytes.now) c.loop-test.true c.in_ok-tag.ensures c.loop.invariant)

pub returns : goal.returns
returns c = is_done tag_at c.loop.tags.items c.args.count c.loop.counter c.loop.rest.now (times tag_at c.args.count c.args.bytes.now) c.loop-test.false c.loop.invariant
