use Rattle.std.proofs.Common.{◌<◌, ◌≤◌, ◌+◌, ◌*◌, ◌^◌, ℕ, length, nat_abs, pos, take, get_or}
use Rattle.fw_lanes.specs.Masked.{AddsRows, billed_of, effective_of}
use Rattle.fw_lanes.proofs.by_code.add_by_code.Given as goal

-- the rows so far were added, and no sum has grown by more than they may come to
abbrev pub invariant-loop-at : goal.invariant-loop-at
invariant-loop-at l = record {
  added : AddsRows (take l.at l.billed) (take l.at l.effective) (take l.at l.codes) (take l.at l.mask) l.initial.sums l.sums;
  near_billed : (code : ℕ) → code < length l.initial.sums → nat_abs (get_or (billed_of l.sums) code (pos 0)) ≤ nat_abs (get_or (billed_of l.initial.sums) code (pos 0)) + l.at * 2 ^ 63;
  near_effective : (code : ℕ) → code < length l.initial.sums → nat_abs (get_or (effective_of l.sums) code (pos 0)) ≤ nat_abs (get_or (effective_of l.initial.sums) code (pos 0)) + l.at * 2 ^ 63;
}
