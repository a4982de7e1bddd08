use Rattle.std.proofs.Common.{◌++◌, ℕ, List, take}
use Rattle.fw_views.specs.RowSpan.{AreEnds}
use Rattle.fw_views.proofs.row_span.with_hours.Given as goal

-- the ends are those of the hours so far
abbrev pub invariant-loop-hour : goal.invariant-loop-hour
invariant-loop-hour l = (hours : List ℕ) → AreEnds hours l.fn.found
    → AreEnds (hours ++ take l.hour-index l.more) l.ends
