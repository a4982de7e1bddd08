use Rattle.std.proofs.Common.{◌<◌, List, length, sym, subst}
use Rattle.fw_charge.specs.Charge.{Charge}
use Rattle.fw_row_table.specs.Table.{rows_of}
use Rattle.fw_row_table.proofs.RowFacts.{has_row, row_there, row_charge}
use Rattle.fw_columns.proofs.columns.Columns.lent.Goals as goal

pub lent_tags-tags-requires : goal.lent_tags-tags-requires
lent_tags-tags-requires c =
    let Within : List Charge → Type 0 = λ rows. c.args.place < length rows in
    has_row c.table-kept.result.now (rows_of c.table-kept.result.now) c.table-kept.ensures.columns c.args.place (subst Within (sym c.table-kept.ensures.rows) c.requires)

pub lent_row-requires-clause-row : goal.lent_row-requires-clause-row
lent_row-requires-clause-row c =
    let Within : List Charge → Type 0 = λ rows. c.args.place < length rows in
    has_row c.table-kept.result.now (rows_of c.table-kept.result.now) c.table-kept.ensures.columns c.args.place (subst Within (sym c.table-kept.ensures.rows) c.requires)

pub lent_row-requires-clause-charge : goal.lent_row-requires-clause-charge
lent_row-requires-clause-charge c =
    let Within : List Charge → Type 0 = λ rows. c.args.place < length rows in
    row_charge c.table-kept.result.now (rows_of c.table-kept.result.now) c.table-kept.ensures.columns c.args.place (subst Within (sym c.table-kept.ensures.rows) c.requires)

pub returns : goal.returns
returns c =
    let Within : List Charge → Type 0 = λ rows. c.args.place < length rows in
    rw (← c.table-kept.ensures.rows, c.lent_row.ensures)
    (row_there c.table-kept.result.now (rows_of c.table-kept.result.now) c.table-kept.ensures.columns c.args.place (subst Within (sym c.table-kept.ensures.rows) c.requires))
