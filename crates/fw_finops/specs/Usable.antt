-- What of a commitment's capacity rows could have used.
use Rattle.std.specs.Prelude.{ℕ, ◌*◌, List, sum_by, Option, Some, None, unsigned_abs}
use Rattle.fw_charge.specs.Charge.{Charge}
use Rattle.fw_terms.specs.Commitment.{CommitmentValue}
use Rattle.fw_cover.specs.Applies.{applied}
use Rattle.fw_cover.specs.Hour.{quantity_of}
use Rattle.fw_cover.specs.Part.{ceil_div}

-- what the whole of a row uses of a capacity: its quantity; or, of a commitment to a cost, its BilledCost at the rate, rounded up
abbrev pub whole_of : Charge → Option ℕ → ℕ
whole_of row None = quantity_of row
whole_of row (Some rate) = ceil_div (unsigned_abs row.billed * rate) 1000000

-- nothing, where the commitment doesn't apply
abbrev pub whole_at : Charge → Option (Option ℕ) → ℕ
whole_at row None = 0
whole_at row (Some rate) = whole_of row rate

-- what a row of an hour could have used of a commitment, in nanos of its unit, or of the currency where it is one to a cost
unfoldable pub usable : ℕ → Charge → CommitmentValue → ℕ
usable hour row c = whole_at row (applied c hour row)

-- what the rows of an hour could have used
unfoldable pub usable_of : ℕ → List Charge → CommitmentValue → ℕ
usable_of hour rows c = sum_by (λ row. usable hour row c) rows
