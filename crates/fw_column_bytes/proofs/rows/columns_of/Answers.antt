use Rattle.std.proofs.Common.{ℕ, List, arith}
use Rattle.std.proofs.lemmas.Result.{err_from_is_err_and}
use Rattle.fw_column_bytes.specs.PartsView.{parts_view}
use Rattle.fw_column_bytes.specs.Reading.{Parts}
use Rattle.fw_column_bytes.proofs.PartsFormat.{parts_format}
use Rattle.fw_column_bytes.proofs.ColumnFacts.{parts_fail}
use Rattle.fw_column_bytes.proofs.ColumnsAgain.{direct_taken, not_taken}
use Rattle.fw_column_bytes.proofs.rows.columns_of.Goals as goal

pub returns-in_err-parts : goal.returns-in_err-parts
returns-in_err-parts c =
    let q = err_from_is_err_and c.from_residual.result c.from_residual.ensures.1 in
    rw (q.1, q.2) (parts_fail c.args.bytes.now c.in_err-parts.field-0.0 c.in_err-parts.ensures)

pub columns_with-requires : goal.columns_with-requires
columns_with-requires c =
    let p : Parts × List ℕ = (parts_view c.in_ok-parts.parts, c.in_ok-parts.rest.now) in
    (parts_format.takes c.args.bytes.now p (λ i. omega (arith, c.type_inv.bytes i)) c.in_ok-parts.ensures).1

pub returns-in-Some : goal.returns-in-Some
returns-in-Some c =
    let p : Parts × List ℕ = (parts_view c.in_ok-parts.parts, c.in_ok-parts.rest.now) in
    let are = rw c.in-Some.is at c.in_ok-rows.ensures.some in
    direct_taken c.args.bytes.now p c.in-Some.rows (λ i. omega (arith, c.type_inv.bytes i)) c.in_ok-parts.ensures are

pub returns-in-None : goal.returns-in-None
returns-in-None c =
    let p : Parts × List ℕ = (parts_view c.in_ok-parts.parts, c.in_ok-parts.rest.now) in
    let none = rw c.in-None.is at c.in_ok-rows.ensures.none in
    not_taken c.args.bytes.now p (λ i. omega (arith, c.type_inv.bytes i)) c.in_ok-parts.ensures none
