-- What a checker has seen and found, as plain values.
use Rattle.std.specs.Prelude.{◌≡◌, ◌≤◌, ℕ, ◌+◌, List, [], ◌∷◌, length, map, min, take, drop, Option, Some, None, Result, Ok, Err}
use Rattle.std.specs.Str.{bytes_eq}
use Rattle.fw_charge.specs.Charge.{Charge}
use Rattle.fw_rows.specs.Keepers.{KeeperValue}
use Rattle.fw_rows.specs.Kept.{RowsKept}
use Rattle.fw_rows.specs.Rows.{RowsRead}
use Rattle.fw_rows.specs.declared.fault.RowFault.{RowFault}
use Rattle.fw_rows.specs.declared.fault.RowFault.TheVariants as row_fault
use Rattle.fw_check.specs.Counts.{kept, counted}
use Rattle.fw_check.specs.Faults.{FindingValue, finding_value, PlaceValue, noted}
use Rattle.fw_check.specs.Kept.{KeptValue}
use Rattle.fw_check.specs.Lines.{line_ends_in}
use Rattle.fw_check.specs.Seen.{Seen, seen_in, nothing_seen, with_rows}
use Rattle.fw_check.specs.declared.checker.Checker.{Checker}
use Rattle.fw_cut.specs.declared.cutter.Part.{Part}

pub record CheckValue : Type 0 where
  pub currency : List ℕ
  pub line_end : ℕ
  pub records : ℕ
  pub lines : ℕ
  pub bad_records : ℕ
  pub faults : ℕ
  pub findings : List FindingValue
  pub seen : Seen

abbrev pub checked : Checker → CheckValue
checked c = record {
  currency = c.currency;
  line_end = c.line_end;
  records = c.records;
  lines = c.lines;
  bad_records = c.bad_records;
  faults = c.faults;
  findings = map finding_value c.findings.items;
  seen = seen_in c.statistics;
}

-- a checker that has seen nothing; the values of these columns are counted
abbrev pub nothing_checked : List ℕ → List KeptValue → CheckValue
nothing_checked currency columns =
    record { currency = currency; line_end = 10; records = 0; lines = 0; bad_records = 0; faults = 0; findings = []; seen = nothing_seen columns }

-- with the lines of a text
abbrev pub with_lines : List ℕ → CheckValue → CheckValue
with_lines text c = record c { lines = kept (c.lines + line_ends_in c.line_end text) }

-- with the lines of a header, where this byte ends lines
abbrev pub with_header : ℕ → List ℕ → CheckValue → CheckValue
with_header end text c = with_lines text (record c { line_end = end })

-- with one more fault, of this code and column
abbrev pub with_fault : List ℕ → List ℕ → List ℕ → PlaceValue → CheckValue → CheckValue
with_fault code column expected place c = record c { faults = kept (c.faults + 1); findings = noted code column expected place c.findings }

-- with so many records of the checker's currency
abbrev pub with_currency : ℕ → CheckValue → CheckValue
with_currency count c = record c { seen = record c.seen { currencies = counted bytes_eq c.currency count c.seen.currencies } }

-- the records of a part
abbrev pub records_in : Part → List ℕ
records_in part = drop (min part.header (length part.text.items)) part.text.items

-- how many times the header stands again in front of a part's records: once, or not at all
abbrev pub headers_again : Part → ℕ
headers_again part = min (length part.skipped.items) 1

-- with records that are rows: the rows and the lines are counted, and each record under the checker's currency
abbrev pub with_read : List ℕ → List Charge → CheckValue → CheckValue
with_read text rows c =
    with_currency (length rows) (with_lines text (record c { records = kept (c.records + length rows); seen = with_rows rows c.seen }))

-- what a text reads as for a checker: with the tags of the columns that it keeps, where it keeps any
abbrev pub ReadsFor : Option KeeperValue → List ℕ → List ℕ → Result (List Charge) RowFault → Type 0
ReadsFor None currency text r = RowsRead currency text r
ReadsFor (Some keeper) currency text r = RowsKept currency keeper.keeps text r

-- what a checker becomes by what a part with these records reads as. Rows are counted, and no fault is. Where there is no record, nothing is. Where a
-- record breaks a rule, at least one fault is counted. Faults of the header are none of a part
abbrev pub Becomes : List ℕ → Result (List Charge) RowFault → CheckValue → CheckValue → Type 0
Becomes text (Ok rows) old new = new ≡ with_read text rows old
Becomes text (Err row_fault.NoRows) old new = new ≡ old
Becomes text (Err (row_fault.Record number f)) old new = kept (old.faults + 1) ≤ new.faults
Becomes text (Err row_fault.TooManyRows) old new = old.faults ≤ new.faults
Becomes text (Err _) old new = ⊥
