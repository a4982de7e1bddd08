use Rattle.std.proofs.Common.{◌∙◌, ap, map}
use Rattle.std.specs.Prelude.{string_bytes}
use Rattle.fw_selections.specs.Shown.{is_chosen, row_value}
use Rattle.fw_selections.specs.TableText.{line_value}
use Rattle.fw_selections.proofs.TableFacts.{part_of}
use Rattle.fw_selections.proofs.table.push_part.Goals as goal

pub returns : goal.returns
returns c =
    part_of (map line_value c.args.lines.now.items) (map line_value c.push_rows.new.lines.items) c.args.sheet.now (is_chosen c.args.chosen) (record { period = c.args.hours; selection = c.args.selection.now })
    (map string_bytes c.in_ok-period.period.items) (map string_bytes c.as_slice.result.now) c.in_ok-all.all (map row_value c.as_slice-2.result.now) c.in_ok-period.ensures (ap (map string_bytes) c.as_slice.ensures.value) c.in_ok-all.ensures
    (ap (map row_value) c.as_slice-2.ensures.value ∙ c.in_ok-rows.ensures) c.in_ok-push_rows.ensures
