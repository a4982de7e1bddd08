use Rattle.std.proofs.Common.{◌≡◌, take}
use Rattle.fw_snapshot.proofs.parts.with_one_more.Given as goal

abbrev pub invariant-loop-commitment : goal.invariant-loop-commitment
invariant-loop-commitment l = l.all.items ≡ take l.commitment-index l.commitments
