use Rattle.std.proofs.Common.{map, take}
use Rattle.fw_finops.specs.Listed.{AreAmountLines}
use Rattle.fw_finops.proofs.listed.lines_at_amounts.Given as goal

-- the rows so far have their lines
abbrev pub invariant-loop-row : goal.invariant-loop-row
invariant-loop-row l = AreAmountLines l.tag (map (λ r. r.now) (take l.row-index l.rows)) l.hour l.lines.items
