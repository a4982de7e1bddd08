use Rattle.std.proofs.Common.{◌≡◌, ◌++◌, List}
use Rattle.fw_charge.specs.Charge.{hour_of}
use Rattle.fw_sums.specs.Costs.{Cost}
use Rattle.fw_sums.specs.Hours.{is_marked}
use Rattle.fw_sums.specs.Sums.{AreSums, Counts}
use Rattle.fw_sums.proofs.CodeSumFacts.{brought_below}
use Rattle.fw_sums.proofs.groups.Groups.add_segment.Given as goal

-- the rows with the codes so far are counted
abbrev pub invariant-loop-code : goal.invariant-loop-code
invariant-loop-code l = record {
  counted : (costs : List Cost) → Counts l.initial.self costs → AreSums l.self (costs ++ brought_below l.key l.segment (λ row. is_marked l.marks l.from (hour_of row.start)) l.code);
  lines : l.self.lines ≡ l.initial.self.lines;
}
