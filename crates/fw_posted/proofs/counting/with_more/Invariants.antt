use Rattle.std.proofs.Common.{◌≡◌, ◌++◌, map, take}
use Rattle.fw_posted.proofs.counting.with_more.Given as goal

-- references to the first segments, and to those so far
abbrev pub invariant-loop-segment : goal.invariant-loop-segment
invariant-loop-segment l = map (λ r. r.now) l.all.items ≡ map (λ r. r.now) l.initial.all.items ++ take l.segment-index l.more
