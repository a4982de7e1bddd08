use Rattle.std.proofs.Common.{All, ◌<◌, ◌+◌, ℕ, take}
use Rattle.fw_lanes.proofs.by_code.code_count.Given as goal

-- no code so far is above the greatest, and what is above all codes is above the greatest
abbrev pub invariant-loop-code : goal.invariant-loop-code
invariant-loop-code l = record {
  above : All (λ code. code < l.greatest + 1) (take l.code-index l.codes);
  least : (n : ℕ) → 0 < n → All (λ code. code < n) l.codes → l.greatest < n;
}
