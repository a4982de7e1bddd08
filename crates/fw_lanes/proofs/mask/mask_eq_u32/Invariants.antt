use Rattle.std.proofs.Common.{◌≡◌, ◌==◌, length, map, take}
use Rattle.fw_lanes.proofs.mask.mask_eq_u32.Given as goal

-- the places so far are set
abbrev pub invariant-loop-at : goal.invariant-loop-at
invariant-loop-at l = (length l.places ≡ length l.values) × (take l.at l.places ≡ map (λ v. v == l.value) (take l.at l.values))
