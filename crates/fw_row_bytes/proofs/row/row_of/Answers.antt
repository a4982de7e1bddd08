use Rattle.std.proofs.Common.{arith, sym, ◌∙◌}
use Rattle.std.proofs.lemmas.Result.{err_from_is_err_and}
use Rattle.fw_row_bytes.specs.FieldView.{fields_view}
use Rattle.fw_row_bytes.proofs.RowFormat.{row_refused, row_taken, row_kept, row_fails}
use Rattle.fw_row_bytes.proofs.row.row_of.Goals as goal

pub returns-in_err-fields : goal.returns-in_err-fields
returns-in_err-fields c =
    let p = err_from_is_err_and c.from_residual.result c.from_residual.ensures.1 in
    rw (p.1, p.2) (row_fails c.args.bytes.now c.in_err-fields.field-0.0 c.in_err-fields.ensures)

pub returns-then-not-agree : goal.returns-then-not-agree
returns-then-not-agree c = row_refused c.args.bytes.now (fields_view c.in_ok-fields.fields, c.in_ok-fields.rest.now) c.in_ok-fields.ensures (sym c.agree.ensures ∙ c.if-not-agree.true)

pub into_row-requires : goal.into_row-requires
into_row-requires c = row_kept c.args.bytes.now (fields_view c.in_ok-fields.fields, c.in_ok-fields.rest.now) (λ i. omega (arith, c.type_inv.bytes i)) c.in_ok-fields.ensures (sym c.agree.ensures ∙ c.if-not-agree.false)

pub returns : goal.returns
returns c = rw c.into_row.ensures (row_taken c.args.bytes.now (fields_view c.in_ok-fields.fields, c.in_ok-fields.rest.now) c.in_ok-fields.ensures (sym c.agree.ensures ∙ c.if-not-agree.false))
