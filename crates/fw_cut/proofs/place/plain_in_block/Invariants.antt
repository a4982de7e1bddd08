use Rattle.std.proofs.Common.{◌+◌, ◌≤◌, ℕ, All, take}
use Rattle.fw_cut.specs.Places.{block, IsPlain}
use Rattle.fw_cut.proofs.place.plain_in_block.Given as goal

-- the bytes so far are plain up to the first that isn't
abbrev pub invariant-loop-index : goal.invariant-loop-index
invariant-loop-index l = (l.len ≤ block) × ((n : ℕ) → n ≤ l.len → n ≤ l.index → All IsPlain (take (l.at + n) l.text))
