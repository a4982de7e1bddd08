use Rattle.std.proofs.Common.{◌≡◌, All, take}
use Rattle.fw_terms.specs.Commitment.{IsCommitment}
use Rattle.fw_cover.specs.Hour.{capacities_of}
use Rattle.fw_cover.proofs.numbers.capacities.Given as goal

abbrev pub invariant-loop-commitment : goal.invariant-loop-commitment
invariant-loop-commitment l = record { values : l.capacities.items ≡ capacities_of (take l.commitment-index l.commitments); in_limits : All IsCommitment (take l.commitment-index l.commitments) }
