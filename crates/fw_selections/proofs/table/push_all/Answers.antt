use Rattle.std.proofs.Common.{map}
use Rattle.fw_selections.specs.Shown.{is_chosen}
use Rattle.fw_selections.specs.TableText.{line_value}
use Rattle.fw_selections.proofs.RowFacts.{cut_parts, uncut_parts}
use Rattle.fw_selections.proofs.TableFacts.{one_part}
use Rattle.fw_selections.proofs.table.push_all.Goals as goal

pub returns-in-Some : goal.returns-in-Some
returns-in-Some c = rw (cut_parts c.args.sheet.now c.args.selections.now c.in-Some.field-0 c.in-Some.is, ← c.as_slice.ensures.value) c.push_parts.ensures

pub returns-in_ok-push_part-in-None : goal.returns-in_ok-push_part-in-None
returns-in_ok-push_part-in-None c =
    let sheet = c.args.sheet.now in
    let selections = c.args.selections.now in
    rw (uncut_parts sheet selections c.in-None.is)
    (one_part (map line_value c.args.lines.now.items) (map line_value c.push_part.new.lines.items) sheet (is_chosen c.args.chosen) (record { period = sheet.hours; selection = selections.whole }) c.in_ok-push_part-in-None.ensures)
