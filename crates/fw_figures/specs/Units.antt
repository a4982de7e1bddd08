-- What of a commitment's capacity rows could have used, over a range of hours.
use Rattle.std.specs.Prelude.{◌-◌, ℕ, List, sum_by}
use Rattle.std.specs.List.{range_with_len}
use Rattle.fw_charge.specs.Charge.{Charge}
use Rattle.fw_terms.specs.Commitment.{CommitmentValue}
use Rattle.fw_amortise.specs.Lines.{rows_in}
use Rattle.fw_finops.specs.Usable.{usable_of}

-- in the hours from `from` up to, and not including, `to`
unfoldable pub usable_between : List Charge → ℕ → ℕ → CommitmentValue → ℕ
usable_between rows from to c = sum_by (λ h. usable_of h (rows_in h rows) c) (range_with_len from (to - from))
