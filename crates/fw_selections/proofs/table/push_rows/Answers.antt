use Rattle.std.proofs.Common.{arith, map}
use Rattle.std.specs.Prelude.{string_bytes}
use Rattle.std.proofs.lemmas.List.{take_all}
use Rattle.fw_selections.specs.TableText.{line_value}
use Rattle.fw_selections.proofs.TableFacts.{line_more, no_rows, rows_more}
use Rattle.fw_selections.proofs.table.push_rows.Goals as goal

pub loop-row-init : goal.loop-row-init
loop-row-init c = no_rows (map line_value c.args.lines.now.items) c.args.sheet.now (map string_bytes c.args.period.now) c.args.all

pub loop-row-preserved : goal.loop-row-preserved
loop-row-preserved c =
    let line = c.in_ok-row_line.field-0 in
    rows_more (map line_value c.args.lines.now.items) (map line_value c.loop-row.lines.items) (map line_value c.push.new.self.items) c.args.sheet.now (map string_bytes c.args.period.now) c.args.all c.args.rows.now c.loop-row.row-index
    c.row-item.result (line_value line) c.loop-row-test.true c.row-item.is c.loop-row.invariant c.in_ok-row_line.ensures (line_more c.loop-row.lines.items c.push.new.self.items line c.in_ok-push.ensures.items)

pub returns : goal.returns
returns c = rw (take_all c.loop-row.row-index c.args.rows.now (omega (arith, c.loop-row-test.false))) at c.loop-row.invariant
