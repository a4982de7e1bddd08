use Rattle.std.proofs.Common.{List, take}
use Rattle.std.specs.List.{AllZip}
use Rattle.fw_sums.specs.Costs.{Cost}
use Rattle.fw_sums.specs.Parts.{PartCounts, in_turn}
use Rattle.fw_sums.specs.Sums.{Counts}
use Rattle.fw_sums.proofs.groups.Groups.of_parts.Given as goal

-- the lines of the parts so far are counted
abbrev pub invariant-loop-part : goal.invariant-loop-part
invariant-loop-part l = (pieces : List (List Cost)) → AllZip PartCounts pieces l.parts → Counts l.all (in_turn (take l.part-index pieces))
