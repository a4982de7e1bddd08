-- A row that no commitment applies to, among the rows of an hour.
use Rattle.std.specs.Prelude.{◌≡◌, ℕ, ◌+◌, nat_lt, if◌then◌else◌, List, All, None}
use Rattle.fw_charge.specs.Charge.{Charge}
use Rattle.fw_terms.specs.Commitment.{CommitmentValue}
use Rattle.fw_cover.specs.Applies.{applied}
use Rattle.fw_cover.specs.declared.taken.Taken.{Taken}

-- no commitment of the list applies to the row in the hour; so of each row of another hour, and of each that isn't eligible
abbrev pub IsUntouched : List CommitmentValue → ℕ → Charge → Type 0
IsUntouched cs hour row = All (λ c. applied c hour row ≡ None) cs

-- the place of a row, once there is one row more at a place
abbrev pub place_past : ℕ → ℕ → ℕ
place_past at place = if nat_lt place at then place else place + 1

abbrev pub take_past : ℕ → Taken → Taken
take_past at t = record t { row = place_past at t.row }
