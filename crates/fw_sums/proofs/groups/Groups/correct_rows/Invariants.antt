use Rattle.std.proofs.Common.{List, ◌++◌, take}
use Rattle.std.specs.Prelude.{slice_index}
use Rattle.std.specs.List.{enumerate_from, flat_map}
use Rattle.fw_sums.specs.Costs.{Cost}
use Rattle.fw_sums.specs.Sums.{Counts}
use Rattle.fw_sums.proofs.CorrectionFacts.{corrections_by}
use Rattle.fw_sums.proofs.groups.Groups.correct_rows.Given as goal

-- the corrections so far are counted
abbrev pub invariant-loop-place : goal.invariant-loop-place
invariant-loop-place l = (costs : List Cost) → Counts l.initial.self costs → Counts l.self (costs ++ flat_map (corrections_by l.key (slice_index l.left)) (take l.place (enumerate_from 0 l.rows)))
