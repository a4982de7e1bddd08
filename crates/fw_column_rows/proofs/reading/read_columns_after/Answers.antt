use Rattle.std.proofs.Common.{◌∙◌, List, Ok, sym, subst}
use Rattle.std.proofs.lemmas.Result.{err_from_is_err_and}
use Rattle.fw_charge.specs.Charge.{Charge}
use Rattle.fw_rows.specs.Rows.{RowsRead}
use Rattle.fw_column_rows.proofs.reading.read_columns_after.Goals as goal

pub returns-in_err-filling : goal.returns-in_err-filling
unfolding RowsRead
returns-in_err-filling c =
    let p = err_from_is_err_and c.from_residual.result c.from_residual.ensures.1 in rw (p.1, p.2) tt

pub returns-in_err-read : goal.returns-in_err-read
returns-in_err-read c =
    let p = err_from_is_err_and c.from_residual-in_err-read.result c.from_residual-in_err-read.ensures.1 in rw (p.1, p.2) c.in_err-read.ensures.rows

pub returns : goal.returns
returns c = let Reads : List Charge → Type 0 = λ rows. RowsRead c.args.currency c.args.text.now (Ok rows) in subst Reads (sym (c.in_ok-columns.ensures ∙ c.into_parts-builder.ensures)) c.in_ok-read.ensures.rows

pub returns-in_err-columns : goal.returns-in_err-columns
unfolding RowsRead
returns-in_err-columns c =
    let p = err_from_is_err_and c.from_residual-in_err-columns.result c.from_residual-in_err-columns.ensures.1 in rw (p.1, p.2) tt
