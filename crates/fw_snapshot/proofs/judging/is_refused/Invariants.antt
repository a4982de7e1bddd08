use Rattle.std.proofs.Common.{◌≡◌, All, false, take}
use Rattle.fw_snapshot.specs.Judging.{refuses}
use Rattle.fw_snapshot.proofs.judging.is_refused.Given as goal

abbrev pub invariant-loop-commitment : goal.invariant-loop-commitment
invariant-loop-commitment l = All (λ c. refuses l.added c ≡ false) (take l.commitment-index l.commitments)
