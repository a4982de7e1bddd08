-- What the records of a text that were read say of its rows, where columns are kept as tags.
use Rattle.std.proofs.Common.{◌≡◌, ℕ, zero, suc, ◌<◌, ◌≤◌, ◌+◌, ◌-◌, true, false, Option, List, [], ◌∷◌, ◌++◌, length, get_or, Result, Ok, Err, refl, sym, ap, subst, ◌∙◌, arith, length-append}
use Rattle.std.specs.List.{AllZip}
use Rattle.csv.specs.Reading.{default_config, records_from, strip_bom, Reached}
use Rattle.csv.specs.declared.parser.State.{State}
use Rattle.csv.specs.declared.parser.State.TheVariants as st
use Rattle.fw_charge.specs.Charge.{Charge}
use Rattle.fw_rows.specs.At.{Finds}
use Rattle.fw_rows.specs.Columns.{Record, missing_column, place_in}
use Rattle.fw_rows.specs.Header.{ArePlaces}
use Rattle.fw_rows.specs.Keeping.{Judged, keep_places}
use Rattle.fw_rows.specs.Keeps.{KeepText}
use Rattle.fw_rows.specs.Kept.{IsKeptRow, RecordKept, RecordsKept, RowsKept}
use Rattle.fw_rows.specs.Refusals.{fault_at}
use Rattle.fw_rows.specs.Rows.{IsHeader, RecordsRead, records_of, most_rows}
use Rattle.fw_rows.specs.declared.column.Column.TheVariants as column
use Rattle.fw_rows.specs.declared.fault.RecordFault.{RecordFault}
use Rattle.fw_rows.specs.declared.fault.Refusal.{Refusal}
use Rattle.fw_rows.specs.declared.fault.Refusal.TheVariants as refusal
use Rattle.fw_rows.specs.declared.fault.RowFault.{RowFault}
use Rattle.fw_rows.specs.declared.fault.RowFault.TheVariants as fault
use Rattle.fw_rows.specs.declared.header.Places.{Places}
use Rattle.fw_rows.proofs.RecordFacts.{records_end, records_more, whole_end, whole_more, whole_last, reached_next, reached_first, no_rows}
use Rattle.fw_rows.proofs.RowFacts.{AllZip-push}

-- a row was added for a record
row-kept : (currency : List ℕ) (keeps : List KeepText) (header fields : Record) (old new : List Charge) → Judged currency keeps header fields old new (Ok tt)
    → (row : Charge) × RecordKept currency keeps header fields (Ok row) × (new ≡ old ++ row ∷ [])
unfolding RecordKept
row-kept currency keeps header fields old new j =
    (j.4.0, (j.0, j.1, j.2, j.3, j.4.1), j.4.2)

fault-kept : (currency : List ℕ) (keeps : List KeepText) (header fields : Record) (old new : List Charge) (f : RecordFault)
    → Judged currency keeps header fields old new (Err (refusal.Broken f)) → RecordKept currency keeps header fields (Err f)
unfolding RecordKept
fault-kept currency keeps header fields old new f j = j

-- the rows are those of the records
abbrev pub AreKeptRows : List ℕ → List KeepText → Record → List Record → List Charge → Type 0
AreKeptRows currency keeps header body rows = AllZip (λ fields row. RecordKept currency keeps header fields (Ok row)) body rows

-- where the reader stands behind a header and some records, and the rows of these
pub record Read {R : Type 0} (A : R → State → List ℕ → Type 0) (currency : List ℕ) (keeps : List KeepText) (text : List ℕ) (reader : R) (places : Places) (kept : List (Option ℕ)) (rows : List Charge) : Type 0 where
  pub state : State
  pub rest : List ℕ
  pub header : Record
  pub body : List Record
  pub at : A reader state rest
  pub reached : Reached default_config st.StartRecord (strip_bom text) (header ∷ body) state rest
  pub stand : ArePlaces header places
  pub keep : kept ≡ keep_places keeps header
  pub whole : IsHeader header
  pub are : AreKeptRows currency keeps header body rows
  pub counted : length body ≡ length rows
  pub few : length body ≤ most_rows

-- each record stands for a row
is_row : (currency : List ℕ) (keeps : List KeepText) (header : Record) (body : List Record) (rows : List Charge) → AreKeptRows currency keeps header body rows → (k : ℕ) (d : Record) → k < length body
    → IsKeptRow currency keeps header (get_or body k d)
is_row currency keeps header [] rows are k d lt = absurd (omega arith)
is_row currency keeps header (b ∷ body) [] are k d lt = absurd are
is_row currency keeps header (b ∷ body) (r ∷ rows) are zero d lt = (r, are.0)
is_row currency keeps header (b ∷ body) (r ∷ rows) are (suc k) d lt = is_row currency keeps header body rows are.1 k d (omega arith)

-- what the records of a text read as is what the text reads as
text_reads : (currency : List ℕ) (keeps : List KeepText) (text : List ℕ) (header : Record) (body : List Record) (r : Result (List Charge) RowFault)
    → records_from default_config (most_rows + 2) st.StartRecord (strip_bom text) ≡ header ∷ body → RecordsKept currency keeps header body r → RowsKept currency keeps text r
unfolding RowsKept records_of
text_reads currency keeps text header body r all reads = rw all reads

-- a text without records
pub nothing_reads : {R : Type 0} (A : R → State → List ℕ → Type 0) (currency : List ℕ) (keeps : List KeepText) (text : List ℕ) (new : R) (f : Record) → Finds A new st.StartRecord (strip_bom text) f false
    → RowsKept currency keeps text (Err (fault.MissingColumn column.BilledCost))
unfolding RowsKept records_of missing_column place_in
nothing_reads A currency keeps text new f finds = rw (records_end (most_rows + 2) st.StartRecord (strip_bom text) finds) refl

-- a header's fault does not depend on kept columns
header_fault : (currency : List ℕ) (keeps : List KeepText) (header : Record) (e : RowFault) → ((currency : List ℕ) (body : List Record) → RecordsRead currency header body (Err e))
    → (body : List Record) → RecordsKept currency keeps header body (Err e)
header_fault currency keeps header (fault.MissingColumn c) bad body = bad currency body
header_fault currency keeps header (fault.DoubleColumn c) bad body = bad currency body
header_fault currency keeps header fault.NoRows bad body =
    let first = bad currency [] in
    let other = bad currency (header ∷ []) in
    absurd (some_record header other.1)
  where
    some_record : (f : Record) → f ∷ [] ≡ [] → ⊥
    some_record f e = cc
header_fault currency keeps header (fault.Record n f) bad body = absurd (none_before (bad currency []))
  where
    none_at : (before : List Record) (b : Record) (after : List Record) → [] ≡ before ++ (b ∷ after) → ⊥
    none_at [] b after e = cc
    none_at (x ∷ before) b after e = cc

    none_before : RecordsRead currency header [] (Err (fault.Record n f)) → ⊥
    none_before r = none_at r.1 r.2 r.3 r.4
header_fault currency keeps header fault.TooManyRows bad body = absurd (none_before (bad currency []))
  where
    none_at : (before : List Record) (b : Record) → [] ≡ before ++ (b ∷ []) → ⊥
    none_at [] b e = cc
    none_at (x ∷ before) b e = cc

    none_before : RecordsRead currency header [] (Err fault.TooManyRows) → ⊥
    none_before r = none_at r.1 r.2 r.3
header_fault currency keeps header fault.NoMemory bad body = tt

pub header_reads : {R : Type 0} (A : R → State → List ℕ → Type 0) (currency : List ℕ) (keeps : List KeepText) (text : List ℕ) (new : R) (f : Record) (e : RowFault) → Finds A new st.StartRecord (strip_bom text) f true
    → ((currency : List ℕ) (body : List Record) → RecordsRead currency f body (Err e)) → RowsKept currency keeps text (Err e)
header_reads A currency keeps text new f e finds bad =
    text_reads currency keeps text f (records_from default_config (most_rows + 1) finds.0 finds.1) (Err e) (records_more (most_rows + 1) st.StartRecord finds.0 (strip_bom text) finds.1 f finds.3)
    (header_fault currency keeps f e bad (records_from default_config (most_rows + 1) finds.0 finds.1))

-- memory may run out at any place
pub memory_reads : (currency : List ℕ) (keeps : List KeepText) (text : List ℕ) → RowsKept currency keeps text (Err fault.NoMemory)
unfolding RowsKept
memory_reads currency keeps text = tt

-- the header was read
pub read-start : {R : Type 0} (A : R → State → List ℕ → Type 0) (currency : List ℕ) (keeps : List KeepText) (text : List ℕ) (new : R) (f : Record) (places : Places) (kept : List (Option ℕ)) → Finds A new st.StartRecord (strip_bom text) f true → ArePlaces f places
    → kept ≡ keep_places keeps f → IsHeader f → Read A currency keeps text new places kept []
read-start A currency keeps text new f places kept finds stand keep whole = record {
  state = finds.0;
  rest = finds.1;
  header = f;
  body = [];
  at = finds.2;
  reached = reached_first finds.0 (strip_bom text) finds.1 f finds.3;
  stand = stand;
  keep = keep;
  whole = whole;
  are = tt;
  counted = refl;
  few = omega arith;
}

-- a record more was read, and stands for a row
read-row : {R : Type 0} (A : R → State → List ℕ → Type 0) (currency : List ℕ) (keeps : List KeepText) (text : List ℕ) (old new : R) (places : Places) (kept : List (Option ℕ)) (rows : List Charge) (f : Record) (row : Charge)
    (r : Read A currency keeps text old places kept rows)
    → ((s : State) (y : List ℕ) → A old s y → Finds A new s y f true) → RecordKept currency keeps r.header f (Ok row) → length rows < most_rows → Read A currency keeps text new places kept (rows ++ row ∷ [])
read-row A currency keeps text old new places kept rows f row r finds reads few =
    let m = finds r.state r.rest r.at in
    record {
      state = m.0;
      rest = m.1;
      header = r.header;
      body = r.body ++ (f ∷ []);
      at = m.2;
      reached = reached_next r.state m.0 (strip_bom text) r.rest m.1 r.header f r.body r.reached m.3;
      stand = r.stand;
      keep = r.keep;
      whole = r.whole;
      are = AllZip-push (λ fields charge. RecordKept currency keeps r.header fields (Ok charge)) r.body rows f row r.are reads;
      counted = omega (arith, r.counted, length-append r.body (f ∷ []), length-append rows (row ∷ []));
      few = omega (arith, r.counted, length-append r.body (f ∷ []));
    }

-- what was found of a record under each header that has these places
abbrev pub JudgedUnder : List ℕ → List KeepText → Places → List (Option ℕ) → Record → List Charge → List Charge → Result (Unit {0}) Refusal → Type 0
JudgedUnder currency keeps places kept f rows now r =
    (header : Record) → ArePlaces header places → kept ≡ keep_places keeps header → Judged currency keeps header f rows now r

-- the same of equal keeps and places
pub judged_moves : (currency : List ℕ) (keeps other : List KeepText) (places : Places) (kept others : List (Option ℕ)) (f : Record) (rows now : List Charge) (r : Result (Unit {0}) Refusal)
    → other ≡ keeps → others ≡ kept → JudgedUnder currency other places others f rows now r → JudgedUnder currency keeps places kept f rows now r
judged_moves currency keeps other places kept others f rows now r same alike judged =
    subst (λ ks. JudgedUnder currency ks places kept f rows now r) same (subst (λ ps. JudgedUnder currency other places ps f rows now r) alike judged)

-- a record more was read, and its row was added
pub read-more : {R : Type 0} (A : R → State → List ℕ → Type 0) (currency : List ℕ) (keeps : List KeepText) (text : List ℕ) (old new : R) (places : Places) (kept : List (Option ℕ)) (rows now : List Charge) (f : Record)
    → Read A currency keeps text old places kept rows
    → ((s : State) (y : List ℕ) → A old s y → Finds A new s y f true) → JudgedUnder currency keeps places kept f rows now (Ok tt) → length rows < most_rows
    → Read A currency keeps text new places kept now × (length now ≡ length rows + 1)
read-more A currency keeps text old new places kept rows now f r finds judged few =
    let row = row-kept currency keeps r.header f rows now (judged r.header r.stand r.keep) in
    (subst (Read A currency keeps text new places kept) (sym row.2) (read-row A currency keeps text old new places kept rows f row.0 r finds row.1 few), ap length row.2 ∙ length-append rows (row.0 ∷ []))

-- a record more was read, and breaks a rule
read-fault : {R : Type 0} (A : R → State → List ℕ → Type 0) (currency : List ℕ) (keeps : List KeepText) (text : List ℕ) (old new : R) (places : Places) (kept : List (Option ℕ)) (rows : List Charge) (f : Record) (number : ℕ) (e : RecordFault)
    (r : Read A currency keeps text old places kept rows)
    → ((s : State) (y : List ℕ) → A old s y → Finds A new s y f true) → RecordKept currency keeps r.header f (Err e) → length rows < most_rows
    → number ≡ length rows + 1 → RowsKept currency keeps text (Err (fault.Record number e))
read-fault A currency keeps text old new places kept rows f number e r finds reads few is =
    let m = finds r.state r.rest r.at in
    let k = most_rows - length r.body in
    let after = records_from default_config k m.0 m.1 in
    let all = whole_more (most_rows + 2) k r.state m.0 (strip_bom text) r.rest m.1 r.header f r.body r.reached (omega (arith, r.counted)) m.3 in
    text_reads currency keeps text r.header (r.body ++ (f ∷ after)) (Err (fault.Record number e)) all
    (r.whole, r.body, f, after, refl, omega (arith, r.counted), omega (arith, r.counted), is_row currency keeps r.header r.body rows r.are, reads)

-- a record more was read, and no row comes of it
pub read-refused : {R : Type 0} (A : R → State → List ℕ → Type 0) (currency : List ℕ) (keeps : List KeepText) (text : List ℕ) (old new : R) (places : Places) (kept : List (Option ℕ)) (rows now : List Charge) (f : Record) (number : ℕ) (e : Refusal)
    → Read A currency keeps text old places kept rows
    → ((s : State) (y : List ℕ) → A old s y → Finds A new s y f true) → JudgedUnder currency keeps places kept f rows now (Err e) → length rows < most_rows
    → number ≡ length rows + 1 → RowsKept currency keeps text (Err (fault_at number e))
read-refused A currency keeps text old new places kept rows now f number (refusal.Broken e) r finds judged few is =
    read-fault A currency keeps text old new places kept rows f number e r finds (fault-kept currency keeps r.header f rows now e (judged r.header r.stand r.keep)) few is
read-refused A currency keeps text old new places kept rows now f number refusal.NoMemory r finds judged few is = memory_reads currency keeps text

-- a record more was read than a text may have
pub read-full : {R : Type 0} (A : R → State → List ℕ → Type 0) (currency : List ℕ) (keeps : List KeepText) (text : List ℕ) (old new : R) (places : Places) (kept : List (Option ℕ)) (rows : List Charge) (f : Record)
    → Read A currency keeps text old places kept rows
    → ((s : State) (y : List ℕ) → A old s y → Finds A new s y f true) → length rows ≡ most_rows → RowsKept currency keeps text (Err fault.TooManyRows)
read-full A currency keeps text old new places kept rows f r finds full =
    let m = finds r.state r.rest r.at in
    let all = whole_last (most_rows + 2) r.state m.0 (strip_bom text) r.rest m.1 r.header f r.body r.reached (omega (arith, r.counted)) m.3 in
    text_reads currency keeps text r.header (r.body ++ (f ∷ [])) (Err fault.TooManyRows) all (r.whole, r.body, f, refl, r.counted ∙ full, is_row currency keeps r.header r.body rows r.are)

-- no record is left behind the header
pub read-none : {R : Type 0} (A : R → State → List ℕ → Type 0) (currency : List ℕ) (keeps : List KeepText) (text : List ℕ) (old new : R) (places : Places) (kept : List (Option ℕ)) (rows : List Charge) (f : Record)
    → Read A currency keeps text old places kept rows
    → ((s : State) (y : List ℕ) → A old s y → Finds A new s y f false) → length rows ≡ 0 → RowsKept currency keeps text (Err fault.NoRows)
read-none A currency keeps text old new places kept rows f r finds none =
    let k = most_rows + 1 - length r.body in
    let all = whole_end (most_rows + 2) k r.state (strip_bom text) r.rest r.header r.body r.reached (omega (arith, r.counted, r.few)) (finds r.state r.rest r.at) in
    text_reads currency keeps text r.header r.body (Err fault.NoRows) all (r.whole, no_rows r.body (r.counted ∙ none))

-- no record is left behind the rows
pub read-all : {R : Type 0} (A : R → State → List ℕ → Type 0) (currency : List ℕ) (keeps : List KeepText) (text : List ℕ) (old new : R) (places : Places) (kept : List (Option ℕ)) (rows : List Charge) (f : Record)
    → Read A currency keeps text old places kept rows
    → ((s : State) (y : List ℕ) → A old s y → Finds A new s y f false) → 0 < length rows → RowsKept currency keeps text (Ok rows)
read-all A currency keeps text old new places kept rows f r finds some =
    let k = most_rows + 1 - length r.body in
    let all = whole_end (most_rows + 2) k r.state (strip_bom text) r.rest r.header r.body r.reached (omega (arith, r.counted, r.few)) (finds r.state r.rest r.at) in
    text_reads currency keeps text r.header r.body (Ok rows) all (r.whole, omega (arith, r.counted), r.few, r.are)
