use Rattle.std.proofs.Common.{◌≡◌, ◌<◌, ℕ, Some, get_or, slice_get, vec_len}
use Rattle.fw_select.proofs.apart.told_apart.Given as goal

-- the pair of each place so far stands at its number
abbrev pub invariant-loop-place : goal.invariant-loop-place
invariant-loop-place l = record {
  long : vec_len l.new ≡ l.place;
  each : (p : ℕ) → p < l.place → slice_get l.pairs.keys (get_or l.new.items p 0) ≡ Some (get_or l.old p 0, get_or l.codes p 0);
}
