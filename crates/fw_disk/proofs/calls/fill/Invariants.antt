use Rattle.std.proofs.Common.{ℕ, List, length, map, reverse}
use Rattle.fw_disk.specs.Memory.{pending, range, Filled}
use Rattle.fw_disk.proofs.Ranges.{AllWithin}
use Rattle.fw_disk.proofs.calls.fill.Given as goal

abbrev pub invariant-loop-write : goal.invariant-loop-write
invariant-loop-write l = record {
  within : AllWithin (length l.file.items) (pending l.side (reverse l.rest));
  more : (new : List ℕ) → Filled l.byte (map range (pending l.side (reverse l.rest))) l.file.items new → Filled l.byte (map range (pending l.side (reverse l.calls))) l.initial.file.items new;
}

abbrev pub decreases-loop-write : goal.decreases-loop-write
decreases-loop-write l = length l.rest
