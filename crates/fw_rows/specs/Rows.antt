-- What a CSV text reads as: its rows, or its first fault.
use Rattle.std.specs.Prelude.{◌≡◌, ◌+◌, ◌<◌, ◌≤◌, ℕ, List, [], ◌∷◌, ◌++◌, length, All, Some, None, Result, Ok, Err, ⊤}
use Rattle.std.specs.List.{AllZip}
use Rattle.csv.specs.Reading.{default_config, records_from, strip_bom}
use Rattle.csv.specs.declared.parser.State.TheVariants as st
use Rattle.fw_charge.specs.Charge.{Charge, most_post_rows}
use Rattle.fw_rows.specs.Columns.{Record, missing_column, double_column}
use Rattle.fw_rows.specs.Rules.{RecordReads, BreaksNoRule}
use Rattle.fw_rows.specs.declared.fault.RowFault.{RowFault}
use Rattle.fw_rows.specs.declared.fault.RowFault.TheVariants as fault

-- the greatest number of rows of a text: as many as a post may have
abbrev pub most_rows : ℕ
most_rows = most_post_rows

-- the records of a text: the header, and those after it up to the one after the last row that a text may have; a record after that
-- changes no answer. A byte order mark at the start is part of no field
unfoldable pub records_of : List ℕ → List Record
records_of text = records_from default_config (most_rows + 2) st.StartRecord (strip_bom text)

-- the first record is the header; a text without records has a header without fields
abbrev pub header_of : List Record → Record
header_of [] = []
header_of (header ∷ body) = header

abbrev pub body_of : List Record → List Record
body_of [] = []
body_of (header ∷ body) = body

-- the header has each required column, and no column twice
abbrev pub IsHeader : Record → Type 0
IsHeader header = (missing_column header ≡ None) × (double_column header ≡ None)

-- what a header and the records after it read as under a currency: their rows, one for one and in order, or their first fault
abbrev pub RecordsRead : List ℕ → Record → List Record → Result (List Charge) RowFault → Type 0
RecordsRead currency header body (Err (fault.MissingColumn c)) = missing_column header ≡ Some c
RecordsRead currency header body (Err (fault.DoubleColumn c)) = (missing_column header ≡ None) × (double_column header ≡ Some c)
RecordsRead currency header body (Err fault.NoRows) = IsHeader header × (body ≡ [])
RecordsRead currency header body (Err (fault.Record number f)) =
    IsHeader header × (before : List Record) × (bad : Record) × (after : List Record)
    × (body ≡ before ++ (bad ∷ after)) × (number ≡ length before + 1) × (number ≤ most_rows)
    × All (BreaksNoRule currency header) before × RecordReads currency header bad (Err f)
RecordsRead currency header body (Err fault.TooManyRows) =
    IsHeader header × (before : List Record) × (last : Record)
    × (body ≡ before ++ (last ∷ [])) × (length before ≡ most_rows) × All (BreaksNoRule currency header) before
RecordsRead currency header body (Ok rows) =
    IsHeader header × (0 < length body) × (length body ≤ most_rows) × AllZip (λ fields row. RecordReads currency header fields (Ok row)) body rows
RecordsRead currency header body (Err fault.NoMemory) = ⊤

-- what a text reads as under a currency: its rows, or its first fault. Memory may run out on any text
unfoldable pub RowsRead : List ℕ → List ℕ → Result (List Charge) RowFault → Type 0
RowsRead currency text r = let records = records_of text in RecordsRead currency (header_of records) (body_of records) r
