use Rattle.std.proofs.Common.{◌≡◌, ◌≤◌, length, reverse}
use Rattle.fw_disk.specs.Memory.{pending}
use Rattle.fw_disk.proofs.calls.last_write.Given as goal

abbrev pub invariant-loop-call : goal.invariant-loop-call
invariant-loop-call l = record { shorter : length l.rest ≤ length l.calls; same : pending l.side (reverse l.rest) ≡ pending l.side (reverse l.calls) }

abbrev pub decreases-loop-call : goal.decreases-loop-call
decreases-loop-call l = length l.rest
