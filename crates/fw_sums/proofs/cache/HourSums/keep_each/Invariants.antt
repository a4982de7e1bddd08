use Rattle.std.proofs.Common.{ℕ, List, All}
use Rattle.fw_charge.specs.Charge.{Charge}
use Rattle.fw_sums.specs.ReportCache.{AreFound, AreKeptUnder, KeepsMore}
use Rattle.fw_terms.specs.Commitment.{CommitmentValue}
use Rattle.fw_sums.proofs.cache.HourSums.keep_each.Given as goal

-- what is kept is as it has to be, as what is left to keep is, and of each hour something is kept of which it was
abbrev pub invariant-loop-found : goal.invariant-loop-found
invariant-loop-found l = record {
  kept : (cs : List CommitmentValue) (rows : List Charge) (key : List ℕ) → All (AreFound cs rows key) l.fn.each.items → AreKeptUnder cs rows key l.initial.self → AreKeptUnder cs rows key l.self × All (AreFound cs rows key) l.found-iterator.rest.items;
  more : KeepsMore l.initial.self l.self;
}
