use Rattle.std.proofs.Common.{take}
use Rattle.fw_selections.specs.Shown.{AreCounted, is_chosen}
use Rattle.fw_selections.proofs.rows.rows_of.Given as goal

-- what the groups so far come to
abbrev pub invariant-loop-group : goal.invariant-loop-group
invariant-loop-group l = AreCounted (is_chosen l.fn.chosen) (take l.group-index l.group-items) l.rows.items l.others l.has_others
