use Rattle.std.proofs.Common.{◌≡◌, map, take}
use Rattle.fw_selections.proofs.rows.lent.Given as goal

-- the groups so far
abbrev pub invariant-loop-group : goal.invariant-loop-group
invariant-loop-group l = map (λ g. g.now) l.lent.items ≡ take l.group-index l.groups
