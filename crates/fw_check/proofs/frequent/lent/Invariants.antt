use Rattle.std.proofs.Common.{◌≡◌, ◌++◌, map}
use Rattle.fw_check.specs.Counts.{text_counts}
use Rattle.fw_check.specs.Frequent.{shown}
use Rattle.fw_check.proofs.frequent.lent.Given as goal

-- the values so far, and those that are left, are all
abbrev pub invariant-loop-value : goal.invariant-loop-value
invariant-loop-value l = map shown l.lent.items ++ text_counts l.value-iterator ≡ text_counts l.initial.value-iterator
