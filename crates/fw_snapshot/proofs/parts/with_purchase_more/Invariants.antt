use Rattle.std.proofs.Common.{◌≡◌, map, take}
use Rattle.fw_snapshot.specs.Adding.{with_added_purchase}
use Rattle.fw_snapshot.proofs.parts.with_purchase_more.Given as goal

abbrev pub invariant-loop-commitment : goal.invariant-loop-commitment
invariant-loop-commitment l = l.all.items ≡ map (with_added_purchase l.added) (take l.commitment-index l.commitments)
