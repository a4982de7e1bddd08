use Rattle.std.proofs.Common.{arith, subst, sym, take}
use Rattle.std.proofs.lemmas.List.{take_all}
use Rattle.fw_selections.specs.CsvText.{part_rows, placed_rows}
use Rattle.fw_selections.specs.Shown.{is_chosen}
use Rattle.fw_selections.specs.Writing.{WritesRecords}
use Rattle.fw_selections.proofs.CsvFacts.{parts_more, writes_more, writes_none}
use Rattle.fw_selections.proofs.csv_text.write_parts.Goals as goal

pub loop-part-init : goal.loop-part-init
loop-part-init c = λ text has. writes_none _ text c.args.sheet.now has

pub loop-part-preserved : goal.loop-part-preserved
loop-part-preserved c = λ text has.
    let sheet = c.args.sheet.now in
    let chosen = is_chosen c.args.chosen in
    let parts = c.args.parts.now in
    let i = c.loop-part.part-index in
    let part = c.part-item.result in
    let before = c.loop-part.invariant text has in
    let one = c.in_ok-write_selection.ensures _ before.wrote in
    subst (WritesRecords c.write_selection.new.writer text sheet) (sym (parts_more sheet chosen parts i part c.loop-part-test.true c.part-item.is))
    (writes_more c.loop-part.writer c.write_selection.new.writer text sheet (placed_rows sheet chosen (take i parts)) (part_rows sheet chosen part) before one)

pub returns : goal.returns
returns c = λ text has. rw (take_all c.loop-part.part-index c.args.parts.now (omega arith)) at (c.loop-part.invariant text has)
