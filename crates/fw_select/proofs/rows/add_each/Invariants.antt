use Rattle.std.proofs.Common.{◌≡◌, ◌++◌, List, length, map, take}
use Rattle.fw_select.specs.Groups.{GroupCost}
use Rattle.fw_select.specs.Rows.{plain_line}
use Rattle.fw_select.specs.Selectors.{costs_of}
use Rattle.fw_select.specs.Table.{AreSums, KeepsGroups}
use Rattle.fw_sums.specs.Hours.{rows_of_places}
use Rattle.fw_select.proofs.rows.add_each.Given as goal

-- the rows so far are counted
abbrev pub invariant-loop-place : goal.invariant-loop-place
invariant-loop-place l = record {
  sums : (before : List GroupCost) → AreSums l.initial.table before
      → AreSums l.table (before ++ costs_of l.selector (map plain_line (rows_of_places l.segment (take l.place-index l.places))));
  kept : KeepsGroups l.initial.table l.table;
  room : length l.room.group.items ≡ length l.selector.keys.now;
}
