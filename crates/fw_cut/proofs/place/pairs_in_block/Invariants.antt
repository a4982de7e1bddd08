use Rattle.std.proofs.Common.{◌+◌, ◌≤◌, ℕ}
use Rattle.fw_cut.specs.Places.{block, IsPassed}
use Rattle.fw_cut.proofs.place.pairs_in_block.Given as goal

-- the bytes so far are passed up to the first quote that has no other beside it, or two
abbrev pub invariant-loop-index : goal.invariant-loop-index
invariant-loop-index l = (l.len ≤ block) × ((n : ℕ) → n ≤ l.len → n ≤ l.index → IsPassed l.text (l.last + n))
