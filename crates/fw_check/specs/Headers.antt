-- What is wrong with the columns of a header.
use Rattle.std.specs.Prelude.{◌≡◌, ◌==◌, ◌++◌, ℕ, Bool, List, [], ◌∷◌, Option, Some, None, codes, count_by, flat_map, if◌then◌else◌, is_none, nat_lt, not}
use Rattle.std.specs.List.{list_any}
use Rattle.std.specs.Str.{bytes_eq}
use Rattle.fw_rows.specs.Columns.{Record, columns, name_of, place_in, required, times}
use Rattle.fw_rows.specs.Keeps.{KeepText}
use Rattle.fw_rows.specs.declared.column.Column.{Column}
use Rattle.fw_check.specs.Checks.{CheckValue, with_fault}
use Rattle.fw_check.specs.Faults.{PlaceValue}
use Rattle.fw_check.specs.declared.checker.Checker.{Checker}
use Rattle.fw_check.specs.declared.columns.HeaderFault.{HeaderFault}
use Rattle.fw_check.specs.declared.columns.HeaderFault.TheVariants as fault

-- the code of a fault of a header, with its name
abbrev pub header_code : HeaderFault → List ℕ
header_code fault.Missing = codes "H1 MissingColumn"
header_code fault.Double = codes "H2 DoubleColumn"

-- a column of a header, and what is wrong with it
pub record ColumnFault : Type 0 where
  pub column : List ℕ
  pub fault : HeaderFault

-- the fault of a column, if it has one
abbrev pub faults_of : List ℕ → Option HeaderFault → List ColumnFault
faults_of name None = []
faults_of name (Some f) = record { column = name; fault = f } ∷ []

-- a fault, where it is one
abbrev pub fault_if : Bool → HeaderFault → Option HeaderFault
fault_if is f = if is then Some f else None

-- ---- the columns that are read

-- what is wrong with a column that a header must have
abbrev pub missing_fault : Record → Column → Option HeaderFault
missing_fault header c = fault_if (is_none (place_in header c)) fault.Missing

-- what is wrong with a column that a header may have just once
abbrev pub double_fault : Record → Column → Option HeaderFault
double_fault header c = fault_if (nat_lt 1 (times header c)) fault.Double

abbrev pub missing_in : Record → Column → List ColumnFault
missing_in header c = faults_of (name_of c) (missing_fault header c)

abbrev pub double_in : Record → Column → List ColumnFault
double_in header c = faults_of (name_of c) (double_fault header c)

-- The faults of a header: each column that it must have and doesn't have, and then each column that is read and stands there twice or more.
abbrev pub header_faults : Record → List ColumnFault
header_faults header = flat_map (missing_in header) required ++ flat_map (double_in header) columns

-- ---- the columns that are kept as tags

-- how often a name stands in a header
unfoldable pub times_named : Record → List ℕ → ℕ
times_named header name = count_by (bytes_eq name) header

-- whether one of these columns has a name
unfoldable pub is_name_among : List ℕ → List Column → Bool
is_name_among name cs = list_any (λ c. bytes_eq (name_of c) name) cs

-- What is wrong with a kept column of a header, beyond the faults above. It has to stand there just once. That a column is missing which each header must
-- have, and that one stands twice which is read by its name, are counted already.
unfoldable pub kept_fault : Record → List ℕ → Option HeaderFault
kept_fault header name =
    if times_named header name == 0 then fault_if (not (is_name_among name required)) fault.Missing
    else if nat_lt 1 (times_named header name) then fault_if (not (is_name_among name columns)) fault.Double
    else None

-- whether a column is kept
unfoldable pub is_kept : List KeepText → List ℕ → Bool
is_kept keeps name = list_any (λ keep. bytes_eq keep.column name) keeps

-- the same of a column that is kept behind some. One that is kept as several tags is looked at once
abbrev pub fault_behind : Record → List KeepText → List ℕ → Option HeaderFault
fault_behind header before name = if is_kept before name then None else kept_fault header name

abbrev pub faults_behind : Record → List KeepText → List KeepText → List ColumnFault
faults_behind header before [] = []
faults_behind header before (keep ∷ keeps) =
    faults_of keep.column (fault_behind header before keep.column) ++ faults_behind header (before ++ keep ∷ []) keeps

-- the faults of kept columns in a header, in the order in which the columns are kept
abbrev pub kept_faults : Record → List KeepText → List ColumnFault
kept_faults header keeps = faults_behind header [] keeps

-- ---- how they are counted

-- where a fault of a header stands: at line 1, and at no record
abbrev pub at_header : PlaceValue
at_header = record { line = 1; number = 0; value = [] }

-- A checker after it has counted faults of a header, one by one. What was expected is told in any words.
abbrev pub HasCounted : List ColumnFault → CheckValue → CheckValue → Type 0
HasCounted [] old new = new ≡ old
HasCounted (f ∷ fs) old new =
    (expected : List ℕ) × HasCounted fs (with_fault (header_code f.fault) f.column expected at_header old) new

-- all but the faults stays as it was
abbrev pub OthersStay : Checker → Checker → Type 0
OthersStay old new = new ≡ record old { faults = new.faults; findings = new.findings }
