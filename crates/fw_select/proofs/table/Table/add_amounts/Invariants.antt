use Rattle.std.proofs.Common.{◌++◌, List, map, take}
use Rattle.fw_select.specs.Groups.{GroupCost, as_amount}
use Rattle.fw_select.specs.Table.{AreSums}
use Rattle.fw_select.proofs.table.Table.add_amounts.Given as goal

-- the amounts so far are counted
abbrev pub invariant-loop-group : goal.invariant-loop-group
invariant-loop-group l = (before : List GroupCost) → AreSums l.initial.self before → AreSums l.self (before ++ map as_amount (take l.group-index l.groups))
