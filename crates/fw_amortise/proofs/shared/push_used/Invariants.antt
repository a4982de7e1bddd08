use Rattle.std.proofs.Common.{◌≡◌, ◌++◌, map, take}
use Rattle.std.specs.List.{zip}
use Rattle.fw_amortise.specs.Lines.{used_line}
use Rattle.fw_amortise.proofs.shared.push_used.Given as goal

abbrev pub invariant-loop-at : goal.invariant-loop-at
invariant-loop-at l =
    l.lines.items ≡ l.initial.lines.items ++ map (λ p. used_line l.hour l.commitment (map (λ r. r.now) l.rows) p.0 p.1) (take l.at (zip l.takes l.shares))
