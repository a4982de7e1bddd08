use Rattle.std.proofs.Common.{arith, map}
use Rattle.std.proofs.lemmas.List.{take_all}
use Rattle.fw_selections.specs.Shown.{is_chosen}
use Rattle.fw_selections.specs.TableText.{line_value}
use Rattle.fw_selections.proofs.TableFacts.{no_parts, parts_more}
use Rattle.fw_selections.proofs.table.push_parts.Goals as goal

pub loop-part-init : goal.loop-part-init
loop-part-init c = no_parts (map line_value c.args.lines.now.items) c.args.sheet.now (is_chosen c.args.chosen)

pub loop-part-preserved : goal.loop-part-preserved
loop-part-preserved c =
    parts_more (map line_value c.args.lines.now.items) (map line_value c.loop-part.lines.items) (map line_value c.push_part.new.lines.items) c.args.sheet.now (is_chosen c.args.chosen) c.args.parts.now c.loop-part.part-index
    c.part-item.result c.loop-part-test.true c.part-item.is c.loop-part.invariant c.in_ok-push_part.ensures

pub returns : goal.returns
returns c = rw (take_all c.loop-part.part-index c.args.parts.now (omega (arith, c.loop-part-test.false))) at c.loop-part.invariant
