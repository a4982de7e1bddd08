-- The first and the last of the hours in which rows start.
use Rattle.std.specs.Prelude.{◌≤◌, ℕ, List, Option, None, Some, Contains, map}
use Rattle.fw_charge.specs.Charge.{Charge, hour_of}
use Rattle.fw_views.specs.declared.row_span.RowHours.{RowHours}

-- the hours in which rows start, one for each row
abbrev pub start_hours : List Charge → List ℕ
start_hours rows = map (λ row. hour_of row.start) rows

-- each hour lies between the first and the last, and both of these are among the hours
pub record HasEnds (hours : List ℕ) (ends : RowHours) : Type 0 where
  pub between : (hour : ℕ) → Contains hours hour → (ends.first ≤ hour) × (hour ≤ ends.last)
  pub first : Contains hours ends.first
  pub last : Contains hours ends.last

-- the first and the last of hours, or none where there is no hour
abbrev pub AreEnds : List ℕ → Option RowHours → Type 0
AreEnds hours None = (hour : ℕ) → ¬ Contains hours hour
AreEnds hours (Some ends) = HasEnds hours ends
