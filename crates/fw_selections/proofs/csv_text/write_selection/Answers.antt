use Rattle.std.proofs.Common.{◌≡◌, ◌∙◌, ap, map}
use Rattle.fw_selections.specs.Shown.{is_chosen, row_value}
use Rattle.fw_selections.specs.Written.{rows_in}
use Rattle.fw_selections.proofs.csv_text.write_selection.Goals as goal

pub returns : goal.returns
returns c =
    let rows : map row_value c.as_slice.result.now ≡ rows_in c.args.sheet.now.keys.now (is_chosen c.args.chosen) c.args.selection.now = ap (map row_value) c.as_slice.ensures.value ∙ c.in_ok-rows.ensures in
    rw rows at c.write_rows.ensures
