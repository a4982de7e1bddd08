use Rattle.std.proofs.Common.{◌++◌, List, take}
use Rattle.fw_select.specs.Groups.{GroupCost}
use Rattle.fw_select.specs.Table.{AreSums}
use Rattle.fw_select.proofs.table.Table.add_groups.Given as goal

-- the groups so far are counted
abbrev pub invariant-loop-group : goal.invariant-loop-group
invariant-loop-group l = (before : List GroupCost) → AreSums l.initial.self before → AreSums l.self (before ++ take l.group-index l.groups)
