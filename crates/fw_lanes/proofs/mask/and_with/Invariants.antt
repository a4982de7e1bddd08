use Rattle.std.proofs.Common.{◌≡◌, ◌≤◌, ◌&&◌, ℕ, false, get_or, length, take}
use Rattle.std.specs.Simd.Lanes.{zip2}
use Rattle.fw_lanes.proofs.mask.and_with.Given as goal

-- the places so far are set, and those behind are as they were
abbrev pub invariant-loop-at : goal.invariant-loop-at
invariant-loop-at l = record {
  many : length l.places ≡ length l.others;
  set : take l.at l.places ≡ zip2 (λ a b. a && b) (take l.at l.initial.places) (take l.at l.others);
  left : (k : ℕ) → l.at ≤ k → get_or l.places k false ≡ get_or l.initial.places k false;
}
