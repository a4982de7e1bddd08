use Rattle.std.proofs.Common.{rules}
use Rattle.std.specs.Int.{w64}
use mir.Val.{SFits}
use Rattle.std.proofs.lemmas.Int.{to_z-of_z}
use Rattle.std.proofs.lemmas.Result.{err_from_is_err_and}
use Rattle.fw_bytes.specs.Reading.{times}
use Rattle.fw_bytes.proofs.Loop.{goes_on, ends, is_done}
use Rattle.fw_fields.specs.Reading.{nanos_at}
use Rattle.fw_column_bytes.proofs.fields.amounts_to_fault.Goals as goal

pub returns-in_err-value : goal.returns-in_err-value
returns-in_err-value c =
    let p = err_from_is_err_and c.from_residual.result c.from_residual.ensures.1 in
    rw (p.1, p.2) (ends nanos_at c.in_err-value.field-0.0 c.loop.column.items c.args.count c.loop.counter c.loop.rest.now (times nanos_at c.args.count c.args.bytes.now) c.loop-test.true c.in_err-value.ensures.read c.loop.invariant)

pub loop-preserved : goal.loop-preserved
loop-preserved c =
    let fits : SFits w64 c.in_ok-value.value = search rules in
    rw (c.in_ok-push.ensures.items, to_z-of_z w64 c.in_ok-value.value fits) (goes_on nanos_at c.loop.column.items c.args.count c.loop.counter c.loop.rest.now c.in_ok-value.value c.in_ok-value.after.now (times nanos_at c.args.count c.args.bytes.now) c.loop-test.true c.in_ok-value.ensures.read c.loop.invariant)

pub returns : goal.returns
returns c = is_done nanos_at c.loop.column.items c.args.count c.loop.counter c.loop.rest.now (times nanos_at c.args.count c.args.bytes.now) c.loop-test.false c.loop.invariant
