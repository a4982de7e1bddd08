use Rattle.std.proofs.Common.{◌≡◌, ◌+ℤ◌, fold, map, pos, take}
use Rattle.fw_figures.proofs.tag_sums.missing_in.Given as goal

-- the groups so far
abbrev pub invariant-loop-group : goal.invariant-loop-group
invariant-loop-group l = l.missing ≡ fold ◌+ℤ◌ (pos 0) (map (λ g. g.billed) (take l.group-index l.amounts))
