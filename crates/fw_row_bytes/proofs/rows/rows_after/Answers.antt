use Rattle.std.proofs.Common.{◌≡◌, ◌∙◌, ◌+◌, ◌∷◌, [], length, length-append, ap, arith}
use Rattle.std.proofs.lemmas.Result.{err_from_is_err_and}
use Rattle.fw_bytes.specs.Reading.{times}
use Rattle.fw_bytes.proofs.Loop.{goes_on, ends, is_done}
use Rattle.fw_row_bytes.specs.Reading.{row_at}
use Rattle.fw_row_bytes.proofs.rows.rows_after.Goals as goal

pub returns-in-Err-clause-read : goal.returns-in-Err-clause-read
returns-in-Err-clause-read c =
    ends row_at c.in-Err.e c.loop.rows c.args.count c.loop.counter c.loop.rest.now (times row_at c.args.count c.args.bytes.now) c.loop-test.true c.in-Err.ensures c.loop.invariant.0

pub returns-in_err-push_row-in-Ok-clause-read : goal.returns-in_err-push_row-in-Ok-clause-read
returns-in_err-push_row-in-Ok-clause-read c =
    let p = err_from_is_err_and c.from_residual.result c.from_residual.ensures.1 in
    rw (p.1, p.2) tt

pub loop-preserved : goal.loop-preserved
loop-preserved c =
    let longer : length c.push_row.new.self ≡ length c.loop.rows + 1 =
    ap length c.in_ok-push_row-in-Ok.ensures.added ∙ length-append c.loop.rows (c.in-Ok.row ∷ []) in
    (rw c.in_ok-push_row-in-Ok.ensures.added (goes_on row_at c.loop.rows c.args.count c.loop.counter c.loop.rest.now c.in-Ok.row c.in-Ok.after.now (times row_at c.args.count c.args.bytes.now) c.loop-test.true c.in-Ok.ensures c.loop.invariant.0), omega (arith, longer, c.loop.invariant.1))

pub returns-clause-read : goal.returns-clause-read
returns-clause-read c =
    is_done row_at c.loop.rows c.args.count c.loop.counter c.loop.rest.now (times row_at c.args.count c.args.bytes.now) c.loop-test.false c.loop.invariant.0
