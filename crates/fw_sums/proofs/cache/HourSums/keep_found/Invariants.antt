use Rattle.std.proofs.Common.{ℕ, List, All}
use Rattle.fw_charge.specs.Charge.{Charge}
use Rattle.fw_sums.specs.ReportCache.{AreKeptUnder, IsFound, KeepsMore}
use Rattle.fw_terms.specs.Commitment.{CommitmentValue}
use Rattle.fw_sums.proofs.cache.HourSums.keep_found.Given as goal

-- what is kept is as it has to be, as what is left to keep is, and of each hour something is kept of which it was
abbrev pub invariant-loop-one : goal.invariant-loop-one
invariant-loop-one l = record {
  kept : (cs : List CommitmentValue) (rows : List Charge) (key : List ℕ) → All (IsFound cs rows key) l.fn.found.items → AreKeptUnder cs rows key l.initial.self → AreKeptUnder cs rows key l.self × All (IsFound cs rows key) l.one-iterator.rest.items;
  more : KeepsMore l.initial.self l.self;
}
