use Rattle.std.proofs.Common.{◌∷◌, [], arith, map, subst, sym, take}
use Rattle.std.proofs.lemmas.List.{take_all}
use Rattle.fw_selections.specs.CsvText.{placed}
use Rattle.fw_selections.specs.Shown.{row_value}
use Rattle.fw_selections.specs.Writing.{WritesRecords}
use Rattle.fw_selections.proofs.CsvFacts.{rows_more, writes_more, writes_none}
use Rattle.fw_selections.proofs.csv_text.write_rows.Goals as goal

pub loop-row-init : goal.loop-row-init
loop-row-init c = λ text has. writes_none _ text c.args.sheet.now has

pub loop-row-preserved : goal.loop-row-preserved
loop-row-preserved c = λ text has.
    let sheet = c.args.sheet.now in
    let hours = c.args.hours in
    let rows = c.args.rows.now in
    let i = c.loop-row.row-index in
    let row = c.row-item.result in
    let before = c.loop-row.invariant text has in
    let one = c.in_ok-write_row.ensures _ before.wrote in
    subst (WritesRecords c.write_row.new.writer text sheet) (sym (rows_more hours rows i row c.loop-row-test.true c.row-item.is))
    (writes_more c.loop-row.writer c.write_row.new.writer text sheet (placed hours (map row_value (take i rows))) (placed hours (row_value row ∷ [])) before one)

pub returns : goal.returns
returns c = λ text has. rw (take_all c.loop-row.row-index c.args.rows.now (omega arith)) at (c.loop-row.invariant text has)
