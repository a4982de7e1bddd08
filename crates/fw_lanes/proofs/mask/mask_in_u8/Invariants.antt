use Rattle.std.proofs.Common.{◌≡◌, length, map, take}
use Rattle.fw_lanes.specs.Masked.{is_in_set}
use Rattle.fw_lanes.proofs.mask.mask_in_u8.Given as goal

-- the places so far are set
abbrev pub invariant-loop-at : goal.invariant-loop-at
invariant-loop-at l = (length l.places ≡ length l.values) × (take l.at l.places ≡ map (is_in_set l.set) (take l.at l.values))
