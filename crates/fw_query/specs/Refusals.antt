-- When there is no report, and when there are no lines.
use Rattle.std.specs.Prelude.{ℕ, List, string_bytes, ⊤}
use Rattle.fw_charge.specs.Charge.{Charge}
use Rattle.fw_terms.specs.Commitment.{CommitmentValue}
use Rattle.fw_sums.specs.Limits.{IsRange}
use Rattle.fw_query.specs.Reports.{IsTooLarge}
use Rattle.fw_query.specs.declared.fault.QueryFault.{QueryFault}
use Rattle.fw_query.specs.declared.fault.QueryFault.TheVariants as fault

-- there is no report under a key of the hours for this reason; a failed allocation may come in place of any answer
abbrev pub IsRefused : List CommitmentValue → List Charge → List ℕ → ℕ → ℕ → QueryFault → Type 0
IsRefused cs rows key from to fault.Range = ¬ IsRange from to
IsRefused cs rows key from to (fault.TotalTooLarge group) = IsRange from to × IsTooLarge cs rows key from to (string_bytes group)
IsRefused cs rows key from to fault.NoMemory = ⊤

-- there are no lines of the hours for this reason
abbrev pub AreRefused : ℕ → ℕ → QueryFault → Type 0
AreRefused from to fault.Range = ¬ IsRange from to
AreRefused from to (fault.TotalTooLarge group) = ⊥
AreRefused from to fault.NoMemory = ⊤
