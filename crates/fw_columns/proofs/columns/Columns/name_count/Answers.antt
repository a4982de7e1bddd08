use Rattle.std.proofs.Common.{◌≤◌, List, length, All, subst}
use Rattle.fw_charge.specs.Tags.{longest_tag_text}
use Rattle.fw_charge.specs.Charge.{Charge}
use Rattle.fw_row_table.specs.Table.{rows_of}
use Rattle.fw_row_table.specs.Texts.{names_of}
use Rattle.fw_row_table.proofs.LengthFacts.{names_sized}
use Rattle.fw_columns.proofs.columns.Columns.name_count.Goals as goal

pub returns-clause-sized : goal.returns-clause-sized
returns-clause-sized c =
    let AreSized : List Charge → Type 0 = λ rows. All (λ text. length text ≤ longest_tag_text) (names_of rows) in
    subst AreSized c.table.ensures.rows (names_sized (rows_of c.table.result.now) c.table.ensures.columns.charges)
