use Rattle.std.proofs.Common.{◌≡◌, ◌++◌, List, length, take}
use Rattle.fw_select.specs.Groups.{GroupCost}
use Rattle.fw_select.specs.Selectors.{costs_of}
use Rattle.fw_select.specs.Table.{AreSums, KeepsGroups}
use Rattle.fw_select.proofs.rows.add_lines.Given as goal

-- the lines so far are counted
abbrev pub invariant-loop-line : goal.invariant-loop-line
invariant-loop-line l = record {
  sums : (before : List GroupCost) → AreSums l.initial.table before → AreSums l.table (before ++ costs_of l.selector (take l.line-index l.lines));
  kept : KeepsGroups l.initial.table l.table;
  room : length l.room.group.items ≡ length l.selector.keys.now;
}
