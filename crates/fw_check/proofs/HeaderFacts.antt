-- The first record of a text, and the faults of kept columns in a header.
use Rattle.std.proofs.Common.{◌≡◌, ◌∙◌, ◌+◌, ◌-◌, ◌^◌, ◌<◌, ◌≤◌, ◌==◌, ◌++◌, ◌∷◌, ℕ, Bool, true, false, List, [], Option, Some, None, Err, length, take, get_or, nat_lt, refl, sym, ap, subst, arith, append-nil, append_assoc, inl, cond, not}
use Rattle.std.proofs.lemmas.Bool.Decides.{nat_tests}
use Rattle.std.proofs.lemmas.List.{take_more}
use Rattle.std.proofs.lemmas.List.Concat.{flat_map-append}
use Rattle.std.specs.Borrow.{Bor}
use Rattle.std.specs.Bool.{⊤}
use Rattle.std.specs.List.{find, flat_map}
use Rattle.std.specs.Option.{is_none}
use Rattle.csv.proofs.ReadFacts.{rows-more, rows-end}
use Rattle.csv.specs.Reading.{Reached, ReadRecord, default_config, records_from, strip_bom, took_first}
use Rattle.csv.specs.declared.parser.State.{State}
use Rattle.csv.specs.declared.parser.State.TheVariants as st
use Rattle.csv.specs.declared.reader.Reader.{Reader}
use Rattle.fw_rows.specs.At.{AtLong, Finds, next_of}
use Rattle.fw_rows.specs.Columns.{Record, columns, double_column, missing_column, name_of, place_in, required, times}
use Rattle.fw_rows.specs.Keeps.{KeepText}
use Rattle.fw_rows.specs.Rows.{RowsRead, header_of, records_of}
use Rattle.fw_rows.specs.declared.column.Column.{Column}
use Rattle.fw_rows.specs.declared.fault.RowFault.TheVariants as row_fault
use Rattle.fw_check.specs.Checks.{CheckValue, with_fault}
use Rattle.fw_check.specs.Counts.{kept}
use Rattle.fw_check.specs.Headers.{ColumnFault, HasCounted, OthersStay, at_header, double_in, fault_behind, fault_if, faults_behind, faults_of, header_code, header_faults, is_name_among, kept_fault, kept_faults, missing_in, times_named}
use Rattle.fw_check.specs.declared.checker.Checker.{Checker}
use Rattle.fw_check.specs.declared.columns.HeaderFault.{HeaderFault}
use Rattle.fw_check.specs.declared.columns.HeaderFault.TheVariants as fault

-- ---- the first record of a text

-- one record that was reached is the next one
reached-one : (s s2 : State) (y z : List ℕ) (f : Record) → Reached default_config s y (f ∷ []) s2 z → next_of s y ≡ Some (f, s2, z)
unfolding Reached
reached-one s s2 y z f h = h.1 ∙ (rw (← h.3.0, ← h.3.1, h.2) refl)

-- what one read of a reader found
pub found_next : (old new : Reader (Bor (List ℕ))) (found : Bool) (f : Record) (s : State) (y : List ℕ) → AtLong old s y → took_first new ≡ true
    → ReadRecord (λ (b : Bor (List ℕ)). Some b.now) old new found f → Finds AtLong new s y f found
unfolding Reached
found_next old new true f s y at first r =
    let m = rows-more (λ (b : Bor (List ℕ)). Some b.now) old new f default_config s y y [] at.config at.source (sym at.state, refl) r in
    (new.state, m.0, record { trim = r.3 ∙ at.trim; ready = inl first; config = r.2 ∙ at.config; source = m.1; state = refl }, reached-one s new.state y m.0 f m.2)
found_next old new false f s y at first r =
    rw at.state at (rows-end (λ (b : Bor (List ℕ)). Some b.now) old new f default_config y at.config at.source r)

-- the record that is read first is the header
pub header_is : (text : List ℕ) (f : Record) (s2 : State) (z : List ℕ) → next_of st.StartRecord (strip_bom text) ≡ Some (f, s2, z) → f ≡ header_of (records_of text)
unfolding records_of records_from
header_is text f s2 z e = rw e refl

-- where there is no record, the header has no fields
pub header_none : (text : List ℕ) → next_of st.StartRecord (strip_bom text) ≡ None → [] ≡ header_of (records_of text)
unfolding records_of records_from
header_none text e = rw e refl

-- ---- the fault of a column

-- a column stands in a header as often as its name does
pub times_is : (header : Record) (c : Column) → times_named header (name_of c) ≡ times header c
unfolding times times_named
times_is header c = refl

pub kept_none_there : (header : Record) (name : List ℕ) (n : ℕ) → n ≡ times_named header name → n ≡ 0 → fault_if (not (is_name_among name required)) fault.Missing ≡ kept_fault header name
unfolding kept_fault
kept_none_there header name n is none = let t : times_named header name ≡ 0 = sym is ∙ none in rw t refl

pub kept_many_there : (header : Record) (name : List ℕ) (n : ℕ) → n ≡ times_named header name → 1 < n → fault_if (not (is_name_among name columns)) fault.Double ≡ kept_fault header name
unfolding kept_fault
kept_many_there header name n is many =
    let some : (times_named header name == 0) ≡ false = grind (arith, nat_tests) in
    let more : nat_lt 1 (times_named header name) ≡ true = grind (arith, nat_tests) in
    rw (some, more) refl

pub kept_one_there : (header : Record) (name : List ℕ) (n : ℕ) → n ≡ times_named header name → n ≡ 1 → None ≡ kept_fault header name
unfolding kept_fault
kept_one_there header name n is one = let t : times_named header name ≡ 1 = sym is ∙ one in rw t refl

-- ---- faults that are counted

-- faults are counted behind others
pub counted_then : (fs gs : List ColumnFault) (old mid new : CheckValue) → HasCounted fs old mid → HasCounted gs mid new → HasCounted (fs ++ gs) old new
counted_then [] gs old mid new h k = subst (λ (c : CheckValue). HasCounted gs c new) h k
counted_then (f ∷ fs) gs old mid new h k =
    (h.0, counted_then fs gs (with_fault (header_code f.fault) f.column h.0 at_header old) mid new h.1 k)

-- the faults of one column more
faults-more : {X : Type 0} (f : X → List ColumnFault) (xs : List X) (i : ℕ) (d : X) → i < length xs
    → flat_map f (take (i + 1) xs) ≡ flat_map f (take i xs) ++ f (get_or xs i d)
faults-more f xs i d lt =
    ap (flat_map f) (take_more xs i d lt)
    ∙ flat_map-append f (take i xs) (get_or xs i d ∷ [])
    ∙ ap (λ (l : List ColumnFault). flat_map f (take i xs) ++ l) (append-nil (f (get_or xs i d)))

pub counted_more : {X : Type 0} (f : X → List ColumnFault) (xs : List X) (i : ℕ) (d : X) (old mid new : CheckValue) → i < length xs
    → HasCounted (flat_map f (take i xs)) old mid → HasCounted (f (get_or xs i d)) mid new → HasCounted (flat_map f (take (i + 1) xs)) old new
counted_more f xs i d old mid new lt so_far more =
    subst (λ (fs : List ColumnFault). HasCounted fs old new) (sym (faults-more f xs i d lt))
    (counted_then (flat_map f (take i xs)) (f (get_or xs i d)) old mid new so_far more)

-- the fault of a column by its name
pub counted_as : (name column : List ℕ) (f g : Option HeaderFault) (old new : CheckValue) → name ≡ column → f ≡ g
    → HasCounted (faults_of name f) old new → HasCounted (faults_of column g) old new
counted_as name column f g old new is same h =
    subst (λ (n : List ℕ). HasCounted (faults_of n g) old new) is
    (subst (λ (o : Option HeaderFault). HasCounted (faults_of name o) old new) same h)

-- the faults of columns that are kept behind some, and of one more
behind-more : (header : Record) (before keeps : List KeepText) (keep : KeepText) → faults_behind header before (keeps ++ keep ∷ [])
    ≡ faults_behind header before keeps ++ faults_of keep.column (fault_behind header (before ++ keeps) keep.column)
behind-more header before [] keep =
    append-nil (faults_of keep.column (fault_behind header before keep.column))
    ∙ ap (λ (l : List KeepText). faults_of keep.column (fault_behind header l keep.column)) (sym (append-nil before))
behind-more header before (k ∷ keeps) keep =
    let first : List ColumnFault = faults_of k.column (fault_behind header before k.column) in
    let rest : List ColumnFault = faults_behind header (before ++ k ∷ []) keeps in
    ap (λ (l : List ColumnFault). first ++ l)
    (behind-more header (before ++ k ∷ []) keeps keep
    ∙ ap (λ (l : List KeepText). rest ++ faults_of keep.column (fault_behind header l keep.column)) (append_assoc before (k ∷ []) keeps))
    ∙ sym (append_assoc first rest (faults_of keep.column (fault_behind header (before ++ (k ∷ keeps)) keep.column)))

-- one kept column more
pub kept_more : (header : Record) (keeps : List KeepText) (i : ℕ) (keep : KeepText) (name : List ℕ) (f : Option HeaderFault) (old mid new : CheckValue) → i < length keeps
    → keep ≡ get_or keeps i keep → name ≡ keep.column → f ≡ fault_behind header (take i keeps) name
    → HasCounted (kept_faults header (take i keeps)) old mid → HasCounted (faults_of name f) mid new → HasCounted (kept_faults header (take (i + 1) keeps)) old new
kept_more header keeps i keep name f old mid new lt at is found so_far more =
    let one : List ColumnFault = faults_of keep.column (fault_behind header (take i keeps) keep.column) in
    let all : kept_faults header (take (i + 1) keeps) ≡ kept_faults header (take i keeps) ++ one =
    ap (kept_faults header) (take_more keeps i keep lt ∙ ap (λ (k : KeepText). take i keeps ++ k ∷ []) (sym at)) ∙ behind-more header [] (take i keeps) keep in
    subst (λ (fs : List ColumnFault). HasCounted fs old new) (sym all)
    (counted_then (kept_faults header (take i keeps)) one old mid new so_far
    (counted_as name keep.column f (fault_behind header (take i keeps) keep.column) mid new is (found ∙ ap (fault_behind header (take i keeps)) is) more))

-- no fault that was counted is forgotten
counted-grows : (fs : List ColumnFault) (old new : CheckValue) → old.faults ≤ 2 ^ 64 - 1 → HasCounted fs old new → old.faults ≤ new.faults
counted-grows [] old new within h = let same : new.faults ≡ old.faults = ap (λ (c : CheckValue). c.faults) h in omega arith
counted-grows (f ∷ fs) old new within h =
    let next : CheckValue = with_fault (header_code f.fault) f.column h.0 at_header old in
    let rest : next.faults ≤ new.faults = counted-grows fs next new (omega arith) h.1 in
    omega arith

-- where there is a fault, one more is counted
abbrev HasOne : List ColumnFault → Type 0
HasOne [] = ⊥
HasOne (f ∷ fs) = ⊤

one-grows : (fs : List ColumnFault) (old new : CheckValue) → HasOne fs → HasCounted fs old new → kept (old.faults + 1) ≤ new.faults
one-grows [] old new one h = absurd one
one-grows (f ∷ fs) old new one h =
    counted-grows fs (with_fault (header_code f.fault) f.column h.0 at_header old) new (omega arith) h.1

one-in-front : (fs gs : List ColumnFault) → HasOne fs → HasOne (fs ++ gs)
one-in-front [] gs one = absurd one
one-in-front (f ∷ fs) gs one = one

one-behind : (fs gs : List ColumnFault) → HasOne gs → HasOne (fs ++ gs)
one-behind [] gs one = one
one-behind (f ∷ fs) gs one = tt

-- where one is found that passes a test, there is the fault of one that does
one-found : (test : Column → Bool) (fault : HeaderFault) (cs : List Column) (c : Column) → find test cs ≡ Some c
    → HasOne (flat_map (λ c. faults_of (name_of c) (fault_if (test c) fault)) cs)
one-found test fault [] c found = absurd (cc)
one-found test fault (d ∷ cs) c found = by (test d) refl found (one-found test fault cs c)
  where
    by : (b : Bool) → test d ≡ b → cond b (Some d) (find test cs) ≡ Some c
        → (find test cs ≡ Some c → HasOne (flat_map (λ c. faults_of (name_of c) (fault_if (test c) fault)) cs))
        → HasOne (flat_map (λ c. faults_of (name_of c) (fault_if (test c) fault)) (d ∷ cs))
    by true is at rest = rw is tt
    by false is at rest = rw is (rest at)

-- a header whose first fault is a missing column
pub missing_grows : (currency text : List ℕ) (c : Column) (old new : CheckValue) → RowsRead currency text (Err (row_fault.MissingColumn c))
    → HasCounted (header_faults (header_of (records_of text))) old new → kept (old.faults + 1) ≤ new.faults
unfolding RowsRead missing_column
missing_grows currency text c old new reads h =
    let header : Record = header_of (records_of text) in
    one-grows (header_faults header) old new (one-in-front (flat_map (missing_in header) required) (flat_map (double_in header) columns) (one-found (λ c. is_none (place_in header c)) fault.Missing required c reads)) h

-- a header whose first fault is a column that stands twice
pub double_grows : (currency text : List ℕ) (c : Column) (old new : CheckValue) → RowsRead currency text (Err (row_fault.DoubleColumn c))
    → HasCounted (header_faults (header_of (records_of text))) old new → kept (old.faults + 1) ≤ new.faults
unfolding RowsRead double_column
double_grows currency text c old new reads h =
    let header : Record = header_of (records_of text) in
    one-grows (header_faults header) old new (one-behind (flat_map (missing_in header) required) (flat_map (double_in header) columns) (one-found (λ c. nat_lt 1 (times header c)) fault.Double columns c reads.1)) h

-- what stays twice stays
pub others_then : (old mid new : Checker) → OthersStay old mid → OthersStay mid new → OthersStay old new
others_then old mid new h k = k ∙ ap (λ (c : Checker). record c { faults = new.faults; findings = new.findings }) h
