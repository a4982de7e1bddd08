use Rattle.std.proofs.Common.{Some, map, take}
use Rattle.fw_finops.specs.Listed.{AddsListed}
use Rattle.fw_finops.proofs.listed.push_listed.Given as goal

abbrev pub invariant-loop-row : goal.invariant-loop-row
invariant-loop-row l =
    AddsListed (Some l.tag) l.hour (map (λ r. r.now) (take l.row-index l.rows)) l.initial.lines.items l.lines.items
