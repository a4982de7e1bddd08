use Rattle.std.proofs.Common.{◌≡◌, ◌≤◌, Bool, count_by, take}
use Rattle.fw_lanes.proofs.mask.count.Given as goal

-- the places so far are counted
abbrev pub invariant-loop-place : goal.invariant-loop-place
invariant-loop-place l = (l.count ≡ count_by (λ (is_set : Bool). is_set) (take l.place-index l.places)) × (l.count ≤ l.place-index)
