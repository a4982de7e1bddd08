-- Which row each line of an hour is of, and the rows that the lines are exported as.
use Rattle.std.specs.Prelude.{◌≡◌, ◌-◌, ◌&&◌, ℕ, List, [], ◌∷◌, Option, None, if◌then◌else◌, not, nat_lt, drop, filter, option_to_list, slice_get}
use Rattle.std.specs.List.{AllZip, enumerate_from, flat_map, range_with_len}
use Rattle.fw_charge.specs.Charge.{Charge}
use Rattle.fw_terms.specs.Commitment.{CommitmentValue}
use Rattle.fw_cover.specs.Eligible.{is_eligible}
use Rattle.fw_cover.specs.Hour.{hour_cover, left_of}
use Rattle.fw_cover.specs.declared.taken.Taken.{Taken}
use Rattle.fw_amortise.specs.LineValue.{LineValue}
use Rattle.fw_amortise.specs.Lines.{AreHourLines, rows_in}
use Rattle.fw_amortise.specs.declared.line.LineKind.{LineKind}
use Rattle.fw_amortise.specs.declared.line.LineKind.TheVariants as kind
use Rattle.fw_allocated.specs.Exported.{exported}

-- the rows that the lines of an hour are of: those of given lines, of used lines and of rests, each in the order of these lines
pub record LineRows : Type 0 where
  pub given : List Charge
  pub used : List Charge
  pub rest : List Charge

-- the row of the next line, by its kind; a purchase, and what a commitment left unused, is of no row
abbrev pub next_row : LineKind → LineRows → Option Charge
next_row kind.Purchase rows = None
next_row kind.Given rows = slice_get rows.given 0
next_row kind.Used rows = slice_get rows.used 0
next_row kind.Unused rows = None
next_row kind.Rest rows = slice_get rows.rest 0

-- the rows of the lines behind it
abbrev pub rows_behind : LineKind → LineRows → LineRows
rows_behind kind.Purchase rows = rows
rows_behind kind.Given rows = record rows { given = drop 1 rows.given }
rows_behind kind.Used rows = record rows { used = drop 1 rows.used }
rows_behind kind.Unused rows = rows
rows_behind kind.Rest rows = record rows { rest = drop 1 rows.rest }

-- each line in turn, exported as a row
abbrev pub exported_lines : LineRows → List LineValue → List Charge
exported_lines rows [] = []
exported_lines rows (line ∷ lines) = exported (next_row line.kind rows) line ∷ exported_lines (rows_behind line.kind rows) lines

-- the rows that no commitment may cover
unfoldable pub given_rows : List Charge → List Charge
given_rows rows = filter (λ row. not (is_eligible row)) rows

-- the row of each take
unfoldable pub used_rows : List Charge → List Taken → List Charge
used_rows rows taken = flat_map (λ t. option_to_list (slice_get rows t.row)) taken

-- a row of which so much is left: none where no commitment may cover it, or nothing is left
unfoldable pub rest_row : Charge → ℕ → List Charge
rest_row row left = if is_eligible row && nat_lt 0 left then row ∷ [] else []

-- the rows of which something is left
unfoldable pub rest_rows : List Charge → List Taken → List Charge
rest_rows rows taken = flat_map (λ r. rest_row r.1 (left_of rows taken r.0)) (enumerate_from 0 rows)

-- the rows that the lines of an hour are of, where these are the rows of the hour and this was taken of them
abbrev pub line_rows : List Charge → List Taken → LineRows
line_rows rows taken = record { given = given_rows rows; used = used_rows rows taken; rest = rest_rows rows taken }

-- these rows are the lines of an hour, exported; `rows` are the rows of the hour
pub record AreHourExports (cs : List CommitmentValue) (rows : List Charge) (hour : ℕ) (exports : List Charge) : Type 0 where
  pub lines : List LineValue
  pub are_lines : AreHourLines cs rows hour lines
  pub exports_are : exports ≡ exported_lines (line_rows rows (hour_cover cs rows hour)) lines

-- the same, where `rows` are rows of any hours
abbrev pub AreExportsAt : List CommitmentValue → List Charge → ℕ → List Charge → Type 0
AreExportsAt cs rows hour exports = AreHourExports cs (rows_in hour rows) hour exports

-- these rows are the lines of the hours from `from` up to, and not including, `to`, exported hour by hour
pub record AreRangeExports (cs : List CommitmentValue) (rows : List Charge) (from to : ℕ) (exports : List Charge) : Type 0 where
  pub hourly : List (List Charge)
  pub are_hourly : AllZip (AreExportsAt cs rows) (range_with_len from (to - from)) hourly
  pub exports_are : exports ≡ flat_map (λ rows. rows) hourly
