use Rattle.std.proofs.Common.{◌++◌, List, map, take}
use Rattle.fw_select.specs.Groups.{GroupCost}
use Rattle.fw_select.specs.Rows.{IsCount, plain_line}
use Rattle.fw_select.specs.Selectors.{costs_of}
use Rattle.fw_select.specs.Table.{AreSums}
use Rattle.fw_sums.specs.Hours.{lent, rows_at}
use Rattle.fw_select.proofs.count.Count.add_places.Given as goal

-- the places so far are counted
abbrev pub invariant-loop-at : goal.invariant-loop-at
invariant-loop-at l = record {
  sums : (before : List GroupCost) → AreSums l.initial.self.table before
      → AreSums l.self.table (before ++ costs_of l.selector (map plain_line (rows_at (lent l.segments) (take l.at-index l.places))));
  count : IsCount l.selector (lent l.segments) l.self;
}
