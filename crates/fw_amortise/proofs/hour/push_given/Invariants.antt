use Rattle.std.proofs.Common.{◌≡◌, ◌++◌, map, filter, take, not}
use Rattle.fw_cover.specs.Eligible.{is_eligible}
use Rattle.fw_amortise.specs.Lines.{given_line}
use Rattle.fw_amortise.proofs.hour.push_given.Given as goal

abbrev pub invariant-loop-row : goal.invariant-loop-row
invariant-loop-row l = l.lines.items ≡ l.initial.lines.items ++ map (given_line l.hour) (filter (λ row. not (is_eligible row)) (map (λ r. r.now) (take l.row-index l.rows)))
