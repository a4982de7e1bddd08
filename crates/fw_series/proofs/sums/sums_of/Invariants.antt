use Rattle.std.proofs.Common.{take}
use Rattle.fw_series.specs.Sums.{AreSums}
use Rattle.fw_series.proofs.sums.sums_of.Given as goal

abbrev pub invariant-loop-entry : goal.invariant-loop-entry
invariant-loop-entry l = AreSums (take l.entry-index l.entries) l.sums
