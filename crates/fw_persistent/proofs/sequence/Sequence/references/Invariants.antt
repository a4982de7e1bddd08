use Rattle.std.proofs.Common.{◌≡◌, map, take}
use Rattle.fw_persistent.proofs.sequence.Sequence.references.Given as goal

-- references to the items so far
abbrev pub invariant-loop-place : goal.invariant-loop-place
invariant-loop-place g l = map (λ r. r.now) l.references.items ≡ take l.place l.self
