-- A commitment beside its place, as plain values. Private functions cite it.
use Rattle.std.specs.Prelude.{ℕ}
use Rattle.fw_terms.specs.Commitment.{CommitmentValue}
use Rattle.fw_cover.specs.declared.order.Placed.{Placed}

abbrev pub placed_of : Placed → ℕ × CommitmentValue
placed_of p = (p.place, p.commitment.now)
