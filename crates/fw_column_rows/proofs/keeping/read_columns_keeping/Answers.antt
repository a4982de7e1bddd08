use Rattle.std.proofs.Common.{◌∙◌, List, Ok, sym, subst}
use Rattle.std.proofs.lemmas.Result.{err_from_is_err_and}
use Rattle.fw_charge.specs.Charge.{Charge}
use Rattle.fw_rows.specs.Kept.{RowsKept}
use Rattle.fw_column_rows.proofs.keeping.read_columns_keeping.Goals as goal

pub returns-in_err-filling-clause-rows : goal.returns-in_err-filling-clause-rows
unfolding RowsKept
returns-in_err-filling-clause-rows c =
    let p = err_from_is_err_and c.from_residual.result c.from_residual.ensures.1 in rw (p.1, p.2) tt

pub returns-in_err-read-clause-rows : goal.returns-in_err-read-clause-rows
returns-in_err-read-clause-rows c =
    let p = err_from_is_err_and c.from_residual-in_err-read.result c.from_residual-in_err-read.ensures.1 in rw (p.1, p.2) c.in_err-read.ensures.rows

pub returns-clause-rows : goal.returns-clause-rows
returns-clause-rows c = let Reads : List Charge → Type 0 = λ rows. RowsKept c.args.currency c.args.keeper.now.keeps c.args.text.now (Ok rows) in subst Reads (sym (c.in_ok-columns.ensures ∙ c.into_parts-builder.ensures)) c.in_ok-read.ensures.rows

pub returns-in_err-columns-clause-rows : goal.returns-in_err-columns-clause-rows
unfolding RowsKept
returns-in_err-columns-clause-rows c =
    let p = err_from_is_err_and c.from_residual-in_err-columns.result c.from_residual-in_err-columns.ensures.1 in rw (p.1, p.2) tt
