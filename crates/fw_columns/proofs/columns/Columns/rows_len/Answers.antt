use Rattle.std.proofs.Common.{◌≡◌, ◌∙◌, ◌-◌, List, length, take, drop, All, ap, arith, length-drop, length-take-le, subst}
use Rattle.std.specs.Prelude.{slice_range}
use Rattle.std.specs.List.{flat_map}
use Rattle.std.proofs.lemmas.List.Elements.{All-drop, All-take}
use Rattle.fw_charge.specs.Charge.{Charge, IsCharge}
use Rattle.fw_charge.specs.Spelling.{row}
use Rattle.fw_row_table.specs.Table.{rows_of}
use Rattle.fw_row_table.proofs.LengthFacts.{short_rows}
use Rattle.fw_columns.specs.declared.columns.Kept.{Kept}
use Rattle.fw_columns.proofs.columns.Columns.rows_len.Goals as goal

pub returns-clause-few : goal.returns-clause-few
returns-clause-few c =
    let first = c.args.first in
    let end = c.args.end in
    let rows : List Charge = c.args.self.now in
    let charges : All IsCharge rows = subst (All IsCharge) c.self.view_is c.self.invariant.1.charges in
    let part = take (end - first) (drop first rows) in
    let few = short_rows part (All-take IsCharge (end - first) (drop first rows) (All-drop IsCharge first rows charges)) in
    let size : length part ≡ end - first = length-take-le (end - first) (drop first rows) (omega (arith, length-drop first rows, c.requires.within)) in
    let len : c.of_rows.result ≡ length (flat_map row part) =
    c.of_rows.ensures ∙ ap (λ (k : Kept). length (flat_map row (slice_range (rows_of k.table) first end))) c.deref-2.ensures
    ∙ ap (λ (rs : List Charge). length (flat_map row (slice_range rs first end))) c.self.view_is in
    omega (arith, few, size, len)
