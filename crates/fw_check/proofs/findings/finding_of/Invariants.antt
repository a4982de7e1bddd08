use Rattle.std.proofs.Common.{◌≡◌, ◌<◌, ℕ, get_or, false}
use Rattle.fw_check.specs.Faults.{is_of, finding_value}
use Rattle.fw_check.specs.declared.findings.Finding.{Finding}
use Rattle.fw_check.proofs.findings.finding_of.Given as goal

-- none so far is of the code and the column
abbrev pub invariant-loop-place : goal.invariant-loop-place
invariant-loop-place l = (k : ℕ) (d : Finding) → k < l.place → is_of l.code l.column (finding_value (get_or l.findings k d)) ≡ false
