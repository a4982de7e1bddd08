use Rattle.std.proofs.Common.{◌≡◌, ◌++◌, filter, map, take}
use Rattle.fw_finops.specs.Lines.{applies, eligible_line}
use Rattle.fw_finops.proofs.open.push_eligible.Given as goal

abbrev pub invariant-loop-commitment : goal.invariant-loop-commitment
invariant-loop-commitment l =
    l.lines.items ≡ l.initial.lines.items ++ map (eligible_line l.hour l.row) (filter (applies l.hour l.row) (take l.commitment-index l.commitments))
