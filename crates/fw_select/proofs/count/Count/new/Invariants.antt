use Rattle.std.proofs.Common.{◌≡◌, None, replicate}
use Rattle.fw_select.proofs.count.Count.new.Given as goal

-- nothing is known of any segment so far
abbrev pub invariant-loop-segment : goal.invariant-loop-segment
invariant-loop-segment l = l.known.items ≡ replicate l._segment-index None
