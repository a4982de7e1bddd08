use Rattle.std.proofs.Common.{map, take}
use Rattle.fw_selections.specs.Lines.{AddsParts}
use Rattle.fw_selections.specs.Shown.{is_chosen}
use Rattle.fw_selections.specs.TableText.{line_value}
use Rattle.fw_selections.proofs.table.push_parts.Given as goal

-- the lines of the parts so far
abbrev pub invariant-loop-part : goal.invariant-loop-part
invariant-loop-part l = AddsParts (map line_value l.initial.lines.items) (map line_value l.lines.items) l.sheet (is_chosen l.fn.chosen) (take l.part-index l.parts)
