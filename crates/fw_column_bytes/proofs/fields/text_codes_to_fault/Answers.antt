use Rattle.std.proofs.lemmas.Result.{err_from_is_err_and}
use Rattle.std.specs.Prelude.{map, string_bytes}
use Rattle.fw_bytes.specs.Reading.{times}
use Rattle.fw_bytes.proofs.Loop.{goes_on, ends, is_done}
use Rattle.fw_column_bytes.specs.Reading.{text_code_at}
use Rattle.fw_column_bytes.proofs.fields.text_codes_to_fault.Goals as goal

pub returns-in_err-value : goal.returns-in_err-value
returns-in_err-value c =
    let p = err_from_is_err_and c.from_residual.result c.from_residual.ensures.1 in
    rw (p.1, p.2) (ends (text_code_at (map string_bytes c.args.names.now)) c.in_err-value.field-0.0 c.loop.column.items c.args.count c.loop.counter c.loop.rest.now (times (text_code_at (map string_bytes c.args.names.now)) c.args.count c.args.bytes.now) c.loop-test.true c.in_err-value.ensures c.loop.invariant)

pub loop-preserved : goal.loop-preserved
loop-preserved c =
    rw c.in_ok-push.ensures.items (goes_on (text_code_at (map string_bytes c.args.names.now)) c.loop.column.items c.args.count c.loop.counter c.loop.rest.now c.in_ok-value.value c.in_ok-value.after.now (times (text_code_at (map string_bytes c.args.names.now)) c.args.count c.args.bytes.now) c.loop-test.true c.in_ok-value.ensures c.loop.invariant)

pub returns : goal.returns
returns c = is_done (text_code_at (map string_bytes c.args.names.now)) c.loop.column.items c.args.count c.loop.counter c.loop.rest.now (times (text_code_at (map string_bytes c.args.names.now)) c.args.count c.args.bytes.now) c.loop-test.false c.loop.invariant
