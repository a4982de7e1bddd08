use Rattle.std.proofs.Common.{◌≡◌, length, map, take}
use Rattle.fw_lanes.specs.Masked.{is_between}
use Rattle.fw_lanes.proofs.mask.mask_range.Given as goal

-- the places so far are set
abbrev pub invariant-loop-at : goal.invariant-loop-at
invariant-loop-at l = (length l.places ≡ length l.values) × (take l.at l.places ≡ map (is_between l.low l.high) (take l.at l.values))
