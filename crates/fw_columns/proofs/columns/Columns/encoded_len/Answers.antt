use Rattle.std.proofs.Common.{◌≡◌, ◌∙◌, ap, arith, length}
use Rattle.std.specs.List.{flat_map}
use Rattle.fw_charge.specs.Spelling.{row}
use Rattle.fw_row_table.specs.Table.{rows_of}
use Rattle.fw_row_table.proofs.LengthFacts.{short_rows}
use Rattle.fw_columns.specs.declared.columns.Kept.{Kept}
use Rattle.fw_columns.proofs.columns.Columns.encoded_len.Goals as goal

pub returns-clause-few : goal.returns-clause-few
returns-clause-few c =
    let rows = rows_of c.self.inside.shared.value.table in
    let len : c.deref.result.now.encoded_len ≡ length (flat_map row rows) = ap (λ (k : Kept). k.encoded_len) c.deref.ensures ∙ c.self.invariant.4 in
    let few = short_rows rows c.self.invariant.1.charges in
    let size : length rows ≡ length c.args.self.now = ap length c.self.view_is in
    omega (arith, len, few, size)
