use Rattle.std.proofs.Common.{◌<◌, List, length, sym, subst}
use Rattle.fw_charge.specs.Charge.{Charge, IsCharge}
use Rattle.fw_row_table.specs.Table.{rows_of}
use Rattle.fw_row_table.proofs.RowFacts.{has_row, row_there, row_charge}
use Rattle.fw_columns.proofs.columns.Columns.row.Goals as goal

pub fields_at-requires : goal.fields_at-requires
fields_at-requires c =
    let Within : List Charge → Type 0 = λ rows. c.args.place < length rows in
    has_row c.table-kept.result.now (rows_of c.table-kept.result.now) c.table-kept.ensures.columns c.args.place (subst Within (sym c.table-kept.ensures.rows) c.requires)

pub of_fields-requires : goal.of_fields-requires
of_fields-requires c =
    let Within : List Charge → Type 0 = λ rows. c.args.place < length rows in
    subst IsCharge (sym c.in_ok-fields_at.ensures)
    (row_charge c.table-kept.result.now (rows_of c.table-kept.result.now) c.table-kept.ensures.columns c.args.place (subst Within (sym c.table-kept.ensures.rows) c.requires))

pub returns : goal.returns
returns c =
    let Within : List Charge → Type 0 = λ rows. c.args.place < length rows in
    rw (← c.table-kept.ensures.rows, c.of_fields.ensures, c.in_ok-fields_at.ensures)
    (row_there c.table-kept.result.now (rows_of c.table-kept.result.now) c.table-kept.ensures.columns c.args.place (subst Within (sym c.table-kept.ensures.rows) c.requires))
