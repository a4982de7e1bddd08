-- What is left of the rows of an hour costs, and what commitments covered and could have covered in hours in turn.
use Rattle.std.specs.Prelude.{ℕ, Bool, List, [], map, filter, sum_by, if◌then◌else◌}
use Rattle.std.specs.List.{enumerate_from, flat_map, list_any}
use Rattle.fw_charge.specs.Charge.{Charge}
use Rattle.fw_terms.specs.Commitment.{CommitmentValue}
use Rattle.fw_cover.specs.Eligible.{is_eligible}
use Rattle.fw_cover.specs.Hour.{hour_cover, left_of}
use Rattle.fw_cover.specs.declared.taken.Taken.{Taken}
use Rattle.fw_amortise.specs.Carrying.{is_share}
use Rattle.fw_amortise.specs.LineValue.{LineValue}
use Rattle.fw_amortise.specs.Lines.{given_line, rest_of, rows_in}
use Rattle.fw_finops.specs.Lines.{applies, coverable_of, covered_lines}
use Rattle.fw_finops.specs.Prices.{cost_of_left}

-- what of a row commitments may cover costs, where so much of it is left
unfoldable pub open_cost : Charge → ℕ → ℕ
open_cost row left = if is_eligible row then cost_of_left row.effective row left else 0

-- what these takes left of the rows that commitments may cover costs
unfoldable pub left_cost : List Charge → List Taken → ℕ
left_cost rows done = sum_by (λ r. open_cost r.1 (left_of rows done r.0)) (enumerate_from 0 rows)

-- the rows that commitments may cover, as lines
unfoldable pub whole_lines : List Charge → ℕ → List LineValue
whole_lines rows hour = map (given_line hour) (filter is_eligible rows)

-- ---- what commitments could have taken of the rows of an hour

-- the rows that some commitment could have taken, as lines
unfoldable pub coverable_lines : List CommitmentValue → List Charge → ℕ → List LineValue
coverable_lines cs rows hour = flat_map (coverable_of cs hour) rows

-- what is left of a row, where some commitment could have taken it
unfoldable pub uncovered_of : List CommitmentValue → ℕ → Charge → ℕ → List LineValue
uncovered_of cs hour row left = if list_any (applies hour row) cs then rest_of hour row left else []

-- what is left of the rows that some commitment could have taken
unfoldable pub uncovered_lines : List CommitmentValue → List Charge → ℕ → List LineValue
uncovered_lines cs rows hour = flat_map (λ r. uncovered_of cs hour r.1 (left_of rows (hour_cover cs rows hour) r.0)) (enumerate_from 0 rows)

-- ---- in hours in turn, among rows of any hours

-- what commitments took, what they could have taken, and what of that they left
unfoldable pub covered_in : List CommitmentValue → List Charge → List ℕ → List LineValue
covered_in cs rows hours = flat_map (λ h. covered_lines cs (rows_in h rows) h) hours

unfoldable pub coverable_in : List CommitmentValue → List Charge → List ℕ → List LineValue
coverable_in cs rows hours = flat_map (λ h. coverable_lines cs (rows_in h rows) h) hours

unfoldable pub uncovered_in : List CommitmentValue → List Charge → List ℕ → List LineValue
uncovered_in cs rows hours = flat_map (λ h. uncovered_lines cs (rows_in h rows) h) hours

-- whether a line carries what a commitment costs: it was used, or left unused
abbrev pub is_amortised : LineValue → Bool
is_amortised line = is_share line.kind
