use Rattle.std.proofs.Common.{◌≡◌, length, reverse}
use Rattle.fw_disk.specs.Memory.{pending, undone_all, AllFit}
use Rattle.fw_disk.proofs.calls.take_back.Given as goal

abbrev pub invariant-loop-write : goal.invariant-loop-write
invariant-loop-write l = record {
  fit : AllFit (length l.file.items) (pending l.side (reverse l.rest));
  same : undone_all l.file.items (pending l.side (reverse l.rest)) ≡ undone_all l.initial.file.items (pending l.side (reverse l.calls));
}

abbrev pub decreases-loop-write : goal.decreases-loop-write
decreases-loop-write l = length l.rest
