use Rattle.std.proofs.Common.{◌≡◌, ◌+◌, ℕ, fold}
use Rattle.fw_check.specs.Counts.{kept, text_counts}
use Rattle.fw_check.specs.Frequent.{rows_of}
use Rattle.fw_check.proofs.frequent.rows_in.Given as goal

-- the rows of the values so far, and those of the values that are left, are all
abbrev pub invariant-loop-count : goal.invariant-loop-count
invariant-loop-count l =
    fold (λ (rows : ℕ) value. kept (rows + value.1)) l.rows (text_counts l.count-iterator) ≡ rows_of (text_counts l.initial.count-iterator)
