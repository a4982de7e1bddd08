use Rattle.std.proofs.Common.{◌≡◌, All, map, take}
use Rattle.fw_snapshot.specs.History.{commitments_of, rows_of}
use Rattle.fw_sums.specs.ReportCache.{AreKept}
use Rattle.fw_series.specs.Series.{IsPartReport}
use Rattle.fw_series.proofs.series.parts_of.Given as goal

-- the parts are the periods so far, each with its report, and what is kept is of the snapshot's entries
abbrev pub invariant-loop-period : goal.invariant-loop-period
invariant-loop-period g l =
    (map (λ p. p.period) l.parts.items ≡ take l.period-index l.period-items) × All (IsPartReport l.snapshot.entries l.query.key.now) l.parts.items
    × AreKept (commitments_of l.snapshot.entries) (rows_of l.snapshot.entries) l.cache
