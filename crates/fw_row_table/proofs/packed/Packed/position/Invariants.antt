use Rattle.std.proofs.Common.{◌≡◌, ℕ, ◌<◌, false, [], get_or}
use Rattle.std.specs.Cmp.Lexicographic.{pointwise}
use Rattle.fw_row_table.proofs.packed.Packed.position.Given as goal

-- none of the lists so far
abbrev pub invariant-loop-place : goal.invariant-loop-place
invariant-loop-place g l = (k : ℕ) → k < l.place → pointwise g.T.PartialEq.eq l.list (get_or l.self k []) ≡ false
