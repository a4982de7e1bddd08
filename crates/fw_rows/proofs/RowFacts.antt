-- What the records of a text that were read say of its rows.
use Rattle.std.proofs.Common.{◌≡◌, ℕ, zero, suc, ◌<◌, ◌≤◌, ◌+◌, ◌-◌, true, false, List, [], ◌∷◌, ◌++◌, length, get_or, Result, Ok, Err, refl, sym, ap, subst, ◌∙◌, arith, length-append}
use Rattle.std.specs.List.{AllZip}
use Rattle.csv.specs.Reading.{default_config, records_from, strip_bom, Reached}
use Rattle.csv.specs.declared.parser.State.{State}
use Rattle.csv.specs.declared.parser.State.TheVariants as st
use Rattle.fw_rows.specs.At.{Finds}
use Rattle.fw_charge.specs.Charge.{Charge}
use Rattle.fw_rows.specs.Columns.{Record, missing_column, place_in, text_in}
use Rattle.fw_rows.specs.Header.{ArePlaces}
use Rattle.fw_rows.specs.Judged.{JudgedWithin}
use Rattle.fw_rows.specs.Refusals.{fault_at}
use Rattle.fw_rules.specs.Table.{FirstBroken}
use Rattle.fw_rows.specs.Rules.{RecordReads, BreaksNoRule, Stands, rules_of}
use Rattle.fw_rows.specs.Sinks.{AddsRow}
use Rattle.fw_rows.specs.Rows.{RecordsRead, RowsRead, IsHeader, records_of, most_rows}
use Rattle.fw_rows.specs.declared.header.Places.{Places}
use Rattle.fw_rows.specs.declared.fault.RecordFault.{RecordFault}
use Rattle.fw_rows.specs.declared.fault.Refusal.{Refusal}
use Rattle.fw_rows.specs.declared.fault.Refusal.TheVariants as refusal
use Rattle.fw_rows.specs.declared.fault.RowFault.{RowFault}
use Rattle.fw_rows.specs.declared.fault.RowFault.TheVariants as fault
use Rattle.fw_rows.specs.declared.column.Column.TheVariants as column
use Rattle.fw_rows.proofs.RecordFacts.{records_end, records_more, whole_end, whole_more, whole_last, reached_next, reached_first, no_rows}

-- what was found of a record, and the rows before it and behind it
abbrev pub Judged : List ℕ → Record → Record → List Charge → List Charge → Result (Unit {0}) Refusal → Type 0
Judged currency header fields old new r = JudgedWithin (rules_of currency header fields) (λ _. AddsRow (text_in header fields) old new) r

row-reads : (currency : List ℕ) (header fields : Record) (row : Charge) → BreaksNoRule currency header fields → Stands (text_in header fields) row → RecordReads currency header fields (Ok row)
unfolding RecordReads
row-reads currency header fields row none stands = (none, stands)

fault-reads : (currency : List ℕ) (header fields : Record) (f : RecordFault) → FirstBroken (rules_of currency header fields) f → RecordReads currency header fields (Err f)
unfolding RecordReads
fault-reads currency header fields f first = first

-- the rows are those of the records
abbrev pub AreRows : List ℕ → Record → List Record → List Charge → Type 0
AreRows currency header body rows = AllZip (λ fields row. RecordReads currency header fields (Ok row)) body rows

-- where the reader stands behind a header and some records, and the rows of these
pub record Read {R : Type 0} (A : R → State → List ℕ → Type 0) (currency text : List ℕ) (reader : R) (places : Places) (rows : List Charge) : Type 0 where
  pub state : State
  pub rest : List ℕ
  pub header : Record
  pub body : List Record
  pub at : A reader state rest
  pub reached : Reached default_config st.StartRecord (strip_bom text) (header ∷ body) state rest
  pub stand : ArePlaces header places
  pub whole : IsHeader header
  pub are : AreRows currency header body rows
  pub counted : length body ≡ length rows
  pub few : length body ≤ most_rows

pub AllZip-push : {A B : Type 0} (R : A → B → Type 0) (xs : List A) (ys : List B) (x : A) (y : B) → AllZip R xs ys → R x y → AllZip R (xs ++ x ∷ []) (ys ++ y ∷ [])
AllZip-push R [] [] x y h r = (r, tt)
AllZip-push R [] (b ∷ ys) x y h r = absurd h
AllZip-push R (a ∷ xs) [] x y h r = absurd h
AllZip-push R (a ∷ xs) (b ∷ ys) x y h r = (h.0, AllZip-push R xs ys x y h.1 r)

-- a record that stands for a row breaks no rule
pub none_broken : (currency : List ℕ) (header : Record) (body : List Record) (rows : List Charge) → AreRows currency header body rows → (k : ℕ) (d : Record) → k < length body
    → BreaksNoRule currency header (get_or body k d)
unfolding RecordReads
none_broken currency header [] rows are k d lt = absurd (omega arith)
none_broken currency header (b ∷ body) [] are k d lt = absurd are
none_broken currency header (b ∷ body) (r ∷ rows) are zero d lt = are.0.0
none_broken currency header (b ∷ body) (r ∷ rows) are (suc k) d lt = none_broken currency header body rows are.1 k d (omega arith)

-- what the records of a text read as is what the text reads as
pub text_reads : (currency text : List ℕ) (header : Record) (body : List Record) (r : Result (List Charge) RowFault)
    → records_from default_config (most_rows + 2) st.StartRecord (strip_bom text) ≡ header ∷ body → RecordsRead currency header body r → RowsRead currency text r
unfolding RowsRead records_of
text_reads currency text header body r all reads = rw all reads

-- a text without records
pub nothing_reads : {R : Type 0} (A : R → State → List ℕ → Type 0) (currency text : List ℕ) (new : R) (f : Record) → Finds A new st.StartRecord (strip_bom text) f false
    → RowsRead currency text (Err (fault.MissingColumn column.BilledCost))
unfolding RowsRead records_of missing_column place_in
nothing_reads A currency text new f finds = rw (records_end (most_rows + 2) st.StartRecord (strip_bom text) finds) refl

-- a header's fault
pub header_reads : {R : Type 0} (A : R → State → List ℕ → Type 0) (currency text : List ℕ) (new : R) (f : Record) (e : RowFault) → Finds A new st.StartRecord (strip_bom text) f true
    → ((currency : List ℕ) (body : List Record) → RecordsRead currency f body (Err e)) → RowsRead currency text (Err e)
header_reads A currency text new f e finds bad =
    text_reads currency text f (records_from default_config (most_rows + 1) finds.0 finds.1) (Err e) (records_more (most_rows + 1) st.StartRecord finds.0 (strip_bom text) finds.1 f finds.3)
    (bad currency (records_from default_config (most_rows + 1) finds.0 finds.1))

-- memory may run out at any place
pub memory_reads : (currency text : List ℕ) → RowsRead currency text (Err fault.NoMemory)
unfolding RowsRead
memory_reads currency text = tt

-- the header was read
pub read-start : {R : Type 0} (A : R → State → List ℕ → Type 0) (currency text : List ℕ) (new : R) (f : Record) (places : Places) → Finds A new st.StartRecord (strip_bom text) f true → ArePlaces f places → IsHeader f
    → Read A currency text new places []
read-start A currency text new f places finds stand whole = record {
  state = finds.0;
  rest = finds.1;
  header = f;
  body = [];
  at = finds.2;
  reached = reached_first finds.0 (strip_bom text) finds.1 f finds.3;
  stand = stand;
  whole = whole;
  are = tt;
  counted = refl;
  few = omega arith;
}

-- a record more was read, and stands for a row
read-row : {R : Type 0} (A : R → State → List ℕ → Type 0) (currency text : List ℕ) (old new : R) (places : Places) (rows : List Charge) (f : Record) (row : Charge) (r : Read A currency text old places rows)
    → ((s : State) (y : List ℕ) → A old s y → Finds A new s y f true) → RecordReads currency r.header f (Ok row) → length rows < most_rows → Read A currency text new places (rows ++ row ∷ [])
read-row A currency text old new places rows f row r finds reads few =
    let m = finds r.state r.rest r.at in
    record {
      state = m.0;
      rest = m.1;
      header = r.header;
      body = r.body ++ (f ∷ []);
      at = m.2;
      reached = reached_next r.state m.0 (strip_bom text) r.rest m.1 r.header f r.body r.reached m.3;
      stand = r.stand;
      whole = r.whole;
      are = AllZip-push (λ fields charge. RecordReads currency r.header fields (Ok charge)) r.body rows f row r.are reads;
      counted = omega (arith, r.counted, length-append r.body (f ∷ []), length-append rows (row ∷ []));
      few = omega (arith, r.counted, length-append r.body (f ∷ []));
    }

-- a record more was read, and its row was added
pub read-more : {R : Type 0} (A : R → State → List ℕ → Type 0) (currency text : List ℕ) (old new : R) (places : Places) (rows now : List Charge) (f : Record) → Read A currency text old places rows
    → ((s : State) (y : List ℕ) → A old s y → Finds A new s y f true) → ((header : Record) → ArePlaces header places → Judged currency header f rows now (Ok tt)) → length rows < most_rows
    → Read A currency text new places now × (length now ≡ length rows + 1)
read-more A currency text old new places rows now f r finds reads few =
    let judged = reads r.header r.stand in
    let row = judged.1.0 in
    let is : now ≡ rows ++ row ∷ [] = judged.1.2 in
    (subst (Read A currency text new places) (sym is) (read-row A currency text old new places rows f row r finds (row-reads currency r.header f row judged.0 judged.1.1) few), ap length is ∙ length-append rows (row ∷ []))

-- a record more was read, and breaks a rule
read-fault : {R : Type 0} (A : R → State → List ℕ → Type 0) (currency text : List ℕ) (old new : R) (places : Places) (rows : List Charge) (f : Record) (number : ℕ) (e : RecordFault) → Read A currency text old places rows
    → ((s : State) (y : List ℕ) → A old s y → Finds A new s y f true) → ((header : Record) → ArePlaces header places → FirstBroken (rules_of currency header f) e) → length rows < most_rows
    → number ≡ length rows + 1 → RowsRead currency text (Err (fault.Record number e))
read-fault A currency text old new places rows f number e r finds reads few is =
    let m = finds r.state r.rest r.at in
    let k = most_rows - length r.body in
    let after = records_from default_config k m.0 m.1 in
    let all = whole_more (most_rows + 2) k r.state m.0 (strip_bom text) r.rest m.1 r.header f r.body r.reached (omega (arith, r.counted)) m.3 in
    text_reads currency text r.header (r.body ++ (f ∷ after)) (Err (fault.Record number e)) all
    (r.whole, r.body, f, after, refl, omega (arith, r.counted), omega (arith, r.counted), none_broken currency r.header r.body rows r.are, fault-reads currency r.header f e (reads r.header r.stand))

-- a record more was read, and no row comes of it
pub read-refused : {R : Type 0} (A : R → State → List ℕ → Type 0) (currency text : List ℕ) (old new : R) (places : Places) (rows now : List Charge) (f : Record) (number : ℕ) (e : Refusal) → Read A currency text old places rows
    → ((s : State) (y : List ℕ) → A old s y → Finds A new s y f true) → ((header : Record) → ArePlaces header places → Judged currency header f rows now (Err e)) → length rows < most_rows
    → number ≡ length rows + 1 → RowsRead currency text (Err (fault_at number e))
read-refused A currency text old new places rows now f number (refusal.Broken e) r finds reads few is = read-fault A currency text old new places rows f number e r finds reads few is
read-refused A currency text old new places rows now f number refusal.NoMemory r finds reads few is = memory_reads currency text

-- a record more was read than a text may have
pub read-full : {R : Type 0} (A : R → State → List ℕ → Type 0) (currency text : List ℕ) (old new : R) (places : Places) (rows : List Charge) (f : Record) → Read A currency text old places rows
    → ((s : State) (y : List ℕ) → A old s y → Finds A new s y f true) → length rows ≡ most_rows → RowsRead currency text (Err fault.TooManyRows)
read-full A currency text old new places rows f r finds full =
    let m = finds r.state r.rest r.at in
    let all = whole_last (most_rows + 2) r.state m.0 (strip_bom text) r.rest m.1 r.header f r.body r.reached (omega (arith, r.counted)) m.3 in
    text_reads currency text r.header (r.body ++ (f ∷ [])) (Err fault.TooManyRows) all (r.whole, r.body, f, refl, r.counted ∙ full, none_broken currency r.header r.body rows r.are)

-- no record is left behind the header
pub read-none : {R : Type 0} (A : R → State → List ℕ → Type 0) (currency text : List ℕ) (old new : R) (places : Places) (rows : List Charge) (f : Record) → Read A currency text old places rows
    → ((s : State) (y : List ℕ) → A old s y → Finds A new s y f false) → length rows ≡ 0 → RowsRead currency text (Err fault.NoRows)
read-none A currency text old new places rows f r finds none =
    let k = most_rows + 1 - length r.body in
    let all = whole_end (most_rows + 2) k r.state (strip_bom text) r.rest r.header r.body r.reached (omega (arith, r.counted, r.few)) (finds r.state r.rest r.at) in
    text_reads currency text r.header r.body (Err fault.NoRows) all (r.whole, no_rows r.body (r.counted ∙ none))

-- no record is left behind the rows
pub read-all : {R : Type 0} (A : R → State → List ℕ → Type 0) (currency text : List ℕ) (old new : R) (places : Places) (rows : List Charge) (f : Record) → Read A currency text old places rows
    → ((s : State) (y : List ℕ) → A old s y → Finds A new s y f false) → 0 < length rows → RowsRead currency text (Ok rows)
read-all A currency text old new places rows f r finds some =
    let k = most_rows + 1 - length r.body in
    let all = whole_end (most_rows + 2) k r.state (strip_bom text) r.rest r.header r.body r.reached (omega (arith, r.counted, r.few)) (finds r.state r.rest r.at) in
    text_reads currency text r.header r.body (Ok rows) all (r.whole, omega (arith, r.counted), r.few, r.are)
