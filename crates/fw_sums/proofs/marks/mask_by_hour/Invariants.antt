use Rattle.std.proofs.Common.{◌≡◌, length, map, nat_abs, take}
use Rattle.fw_charge.specs.Charge.{hour_of}
use Rattle.fw_sums.specs.Hours.{is_marked}
use Rattle.fw_sums.proofs.marks.mask_by_hour.Given as goal

-- the seconds so far
abbrev pub invariant-loop-place : goal.invariant-loop-place
invariant-loop-place l = (length l.mask ≡ length l.seconds) × (take l.place l.mask ≡ map (λ s. is_marked l.marks l.from (hour_of (nat_abs s))) (take l.place l.seconds))
