use Rattle.std.proofs.Common.{◌≡◌, map, filter, take}
use Rattle.fw_cover.specs.Eligible.{is_of_hour}
use Rattle.fw_amortise.proofs.hour.rows_in.Given as goal

abbrev pub invariant-loop-row : goal.invariant-loop-row
invariant-loop-row l = map (λ r. r.now) l.found.items ≡ filter (is_of_hour l.hour) (take l.row-index l.rows)
