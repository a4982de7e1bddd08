use Rattle.std.proofs.Common.{◌<◌, ◌∙◌, List, length, refl, sym, subst, true≢false}
use Rattle.fw_charge.specs.Charge.{Charge}
use Rattle.fw_row_table.specs.Table.{AreColumns}
use Rattle.fw_columns.proofs.PartColumns.{some_rows}
use Rattle.fw_columns.proofs.columns.Columns.checked.Goals as goal

pub of_table-requires-clause-some : goal.of_table-requires-clause-some
of_table-requires-clause-some c = some_rows c.args.table c.requires.fields.some

pub returns-clause-some : goal.returns-clause-some
returns-clause-some c =
    let Have : List Charge → Type 0 = λ rows. AreColumns c.args.table rows in
    subst Have (sym c.in_ok-columns.ensures) (c.are_columns.ensures.columns c.if-not-are_columns.false)

pub returns-then-not-are_columns-clause-exactly : goal.returns-then-not-are_columns-clause-exactly
returns-then-not-are_columns-clause-exactly c = (λ none rows some columns. true≢false (sym (c.are_columns.ensures.of_rows rows columns) ∙ c.if-not-are_columns.true), λ h. refl)

pub returns-clause-exactly : goal.returns-clause-exactly
returns-clause-exactly c =
    let Some : List Charge → Type 0 = λ rows. 0 < length rows in
    (λ e. absurd cc, λ none. absurd (none c.in_ok-columns.columns (subst Some (sym c.in_ok-columns.ensures) (some_rows c.args.table c.requires.fields.some)) (returns-clause-some c)))
