-- States: what is read is spelled so, and what is spelled so is read.
use Rattle.std.proofs.Common.{◌≡◌, ◌<◌, ◌≤◌, ◌^◌, ◌-◌, ℕ, eqb, length-append, List, [], ◌∷◌, ◌++◌, length, map, slice_get, All, Some, Ok, refl, sym, ap, subst, ◌∙◌, append_assoc, arith}
use Rattle.std.specs.List.{flat_map, AllByRecursion}
use Rattle.std.proofs.Math.Seq.{take-append_seam, drop-append_seam}
use Rattle.std.proofs.lemmas.Bool.{eqb-true, eq-eqb, ltb-true}
use Rattle.std.proofs.lemmas.List.{length-map}
use Rattle.std.proofs.lemmas.List.Elements.{All-from_recursion, All-get_or, All-nil, All-cons, All-head, All-tail, All-take, All-drop, All-append, All-weaker}
use Rattle.std.proofs.lemmas.Option.{slice_get_within, get_or_from_slice_get}
use Rattle.fw_bytes.specs.Spelling.{text, listed, Fits64}
use Rattle.fw_bytes.proofs.Laws.{IsBytes, bind_ok, ok_is, passed, list_parts, list_fits}
use Rattle.fw_charge.specs.Charge.{Charge}
use Rattle.fw_charge.specs.Spelling.{IsRow}
use Rattle.fw_entry.specs.Entry.{EntryValue, CommandValue}
use Rattle.fw_entry.specs.Entry.CommandValue.{post, commit, set_policy, withdraw, add_purchase}
use Rattle.fw_entry.specs.Kinds.{kind_of}
use Rattle.fw_entry.specs.Spelling.{IsCommand, IsEntry}
use Rattle.std.specs.Prelude.{IsTrue}
use Rattle.fw_entry_bytes.specs.declared.form.Form.{Form}
use Rattle.fw_entry_bytes.specs.declared.form.Form.TheVariants.{Two}
use Rattle.fw_entry_bytes.specs.Forms.{has_kind, has_entry, IsOfForm}
use Rattle.fw_entry_bytes.proofs.FormFacts.{all_of_two}
use Rattle.fw_entry_bytes.specs.Whole.{whole}
use Rattle.fw_entry_bytes.proofs.Facts.{name_fits}
use Rattle.fw_posted.specs.Rows.{segment_rows}
use Rattle.fw_snapshot.specs.Heads.{HeadValue, head_of, content_of, entries_of, row_counts}
use Rattle.fw_snapshot.specs.History.{History, rows_posted, posted}
use Rattle.fw_snapshot.proofs.HeadFacts.{row_counts_cons, row_count_back, rows_posted_entries, heads_of_entries, length_entries}
use Rattle.fw_segment.specs.declared.layout.SegmentLayout.{SegmentLayout}
use Rattle.fw_segment.specs.declared.layout.SegmentLayout.TheVariants.{Columns}
use Rattle.fw_segment.specs.Segments.{segment, IsSegment}
use Rattle.fw_segment.specs.Heads as head
use Rattle.fw_segment.specs.Heads.{heads, IsContent, IsHead}
use Rattle.fw_segment.specs.States.{state, by_column, Spells, SpellsByColumn, most_segments, Cut, cut_rows, Parts, parts_at, bytes_before_heads, continued, replayed, replayed_state, state_from, state_at}
use Rattle.fw_segment.proofs.HeadFormat.{AreHeads, FitsHead}
use Rattle.fw_segment.proofs.StateFormat.{FitsCut, parts_taken, parts_again}
use Rattle.fw_segment.proofs.Replay.{no_row_counts, replay_taken, replay_again}
use Rattle.fw_row_table.specs.Table.{most_column_rows}

-- ---- heads of entries, rows of segments

content_is : (c : CommandValue) → IsCommand c → IsContent (content_of c)
content_is (post rows) h = (h.count.some, h.count.few)
content_is (commit c) h = h
content_is (set_policy p) h = h
content_is (withdraw n) h = h
content_is (add_purchase a) h = h

head_is : (e : EntryValue) → IsEntry e → IsHead (head_of e)
head_is e h = record { origin = h.origin; seq = (h.some_seq, h.seq); content = content_is e.command h.command }

heads_are : (es : List EntryValue) → All IsEntry es → AllByRecursion IsHead (map head_of es)
heads_are [] each = tt
heads_are (e ∷ es) each = (head_is e (All-head IsEntry e es each), heads_are es (All-tail IsEntry e es each))

-- a head has the kind of its entry
kind_same : (c : CommandValue) → head.kind_of (content_of c) ≡ kind_of c
kind_same (post rows) = refl
kind_same (commit c) = refl
kind_same (set_policy p) = refl
kind_same (withdraw n) = refl
kind_same (add_purchase a) = refl

abbrev IsHeadOfForm : Form → HeadValue → Type 0
IsHeadOfForm form h = IsTrue (has_kind form (head.kind_of h.content))

abbrev IsEntryOfForm : Form → EntryValue → Type 0
IsEntryOfForm form e = IsTrue (has_entry form e)

heads_fit : (form : Form) (es : List EntryValue) → All IsEntry es → IsOfForm form es → AllByRecursion (FitsHead form) (map head_of es)
heads_fit form [] each has = tt
heads_fit form (e ∷ es) each has =
    ((head_is e (All-head IsEntry e es each), ap (has_kind form) (kind_same e.command) ∙ All-head (IsEntryOfForm form) e es has), heads_fit form es (All-tail IsEntry e es each) (All-tail (IsEntryOfForm form) e es has))

entries_fit : (form : Form) (es : List EntryValue) → All (IsHeadOfForm form) (map head_of es) → IsOfForm form es
entries_fit form [] has = All-nil (IsEntryOfForm form)
entries_fit form (e ∷ es) has =
    All-cons (IsEntryOfForm form) e es (ap (has_kind form) (sym (kind_same e.command)) ∙ All-head (IsHeadOfForm form) (head_of e) (map head_of es) has) (entries_fit form es (All-tail (IsHeadOfForm form) (head_of e) (map head_of es) has))

-- each head of an entry has a name that can be written
pub head_short : (es : List EntryValue) → All IsEntry es → (place : ℕ) (h : HeadValue) → slice_get (map head_of es) place ≡ Some h → length h.origin < 2 ^ 32
head_short es each place h e =
    let is = All-get_or IsHead (map head_of es) place h (slice_get_within (map head_of es) place h e) (All-from_recursion IsHead (map head_of es) (heads_are es each)) in
    let one : IsHead h = subst IsHead (get_or_from_slice_get (map head_of es) place h h e) is in
    ltb-true _ _ (name_fits h.origin one.origin).0

are_heads : (form : Form) (es : List EntryValue) → Fits64 (length es) → All IsEntry es → IsOfForm form es → AreHeads form (map head_of es)
are_heads form es count each has = (rw (length-map es head_of) count, heads_fit form es each has)

abbrev pub IsLaid : SegmentLayout × List Charge → Type 0
IsLaid s = IsSegment s.1

pub rows_each : (cut : Cut) → All IsLaid cut → All IsRow (segment_rows (cut_rows cut))
rows_each [] each = All-nil IsRow
rows_each (s ∷ cut) each = All-append IsRow s.1 (segment_rows (cut_rows cut)) (All-head IsLaid s cut each).each (rows_each cut (All-tail IsLaid s cut each))

-- ---- a state

-- the state of parts, where there is one
parts_state : (total : ℕ) (p : Parts) (h : History) → state_from total p ≡ Ok h
    → (length p.1.1 ≡ row_counts p.1.0) × (es : List EntryValue) × (replayed (total - bytes_before_heads) [] p.1.0 p.1.1 ≡ Ok es) × (h ≡ record { currency = p.0; entries = es })
unfolding state_from replayed_state continued
parts_state total p h e =
    let q = passed (eqb (length p.1.1) (row_counts p.1.0)) total (replayed_state (total - bytes_before_heads) p.0 p.1.0 p.1.1) h e in
    let r = bind_ok (replayed (total - bytes_before_heads) [] p.1.0 p.1.1) (λ es. Ok (record { currency = p.0; entries = es })) h q.1 in
    let made : History = record { currency = p.0; entries = r.0 } in
    (eqb-true _ _ q.0, r.0, r.1, sym (ok_is made h r.2))

pub state_taken : (form : Form) (bytes : List ℕ) (h : History) → IsBytes bytes → state_at form bytes ≡ Ok h → Spells bytes h × IsOfForm form h.entries
unfolding state_at
state_taken form bytes h is e =
    let b = bind_ok (whole (parts_at form) bytes) (state_from (length bytes)) h e in
    let p = b.0 in
    let c = parts_taken form bytes p is b.1 in
    let s = parts_state (length bytes) p h b.2 in
    let fits = list_parts IsLaid 0 most_segments c.cut c.segments in
    let fit = All-from_recursion (FitsHead form) p.1.0 c.heads.1 in
    let heads = All-weaker (FitsHead form) IsHead (λ head fits. fits.0) p.1.0 fit in
    let of_form = All-weaker (FitsHead form) (IsHeadOfForm form) (λ head fits. fits.1) p.1.0 fit in
    let rows = subst (All IsRow) c.rows (rows_each c.cut fits.2) in
    let g = replay_taken (length bytes - bytes_before_heads) [] p.1.0 p.1.1 s.1 s.0 heads rows s.2 in
    let es = entries_of p.1.0 p.1.1 in
    let made : History = record { currency = p.0; entries = es } in
    let same : made ≡ h = sym (s.3 ∙ ap (λ (xs : List EntryValue). let one : History = record { currency = p.0; entries = xs } in one) g.is) in
    let spelled : bytes ≡ state p.0 (map head_of es) c.cut = c.is ∙ ap (λ (hs : List HeadValue). state p.0 hs c.cut) (sym (heads_of_entries p.1.0 p.1.1 s.0)) in
    let count : Fits64 (length es) = rw (length_entries p.1.0 p.1.1 s.0) c.heads.0 in
    let has : IsOfForm form es = entries_fit form es (subst (All (IsHeadOfForm form)) (sym (heads_of_entries p.1.0 p.1.1 s.0)) of_form) in
    subst (λ (k : History). Spells bytes k × IsOfForm form k.entries) same (
      record {
        cut = c.cut;
        count = c.segments.0;
        segments = fits.2;
        rows = c.rows ∙ sym (rows_posted_entries p.1.0 p.1.1 s.0);
        history = record { currency = c.code; count = count; each = g.each; legal = g.legal };
        spelled = spelled;
      },
      has,
    )

-- as many rows as the heads of the entries say
as_many : (es : List EntryValue) → length (rows_posted es) ≡ row_counts (map head_of es)
unfolding rows_posted
as_many [] = sym no_row_counts
as_many (e ∷ es) =
    let rows = length-append (posted e.command) (rows_posted es) in
    let own = row_count_back e.command in
    let said = row_counts_cons (head_of e) (map head_of es) in
    let others = as_many es in
    omega arith

from_parts : (total : ℕ) (currency : List ℕ) (hs : List HeadValue) (rows : List Charge) (es : List EntryValue) → length rows ≡ row_counts hs → replayed (total - bytes_before_heads) [] hs rows ≡ Ok es → state_from total (currency, (hs, rows)) ≡ Ok (record { currency = currency; entries = es })
unfolding state_from replayed_state continued
from_parts total currency hs rows es many read = rw (many, eq-eqb _ _ refl, read) refl

pub state_again : (form : Form) (bytes : List ℕ) (h : History) → Spells bytes h → IsOfForm form h.entries → state_at form bytes ≡ Ok h
unfolding state_at
state_again form bytes h s has =
    let fits : FitsCut s.cut = list_fits IsLaid 0 most_segments s.cut (omega arith) (omega (arith, ltb-true _ _ s.count)) (omega arith) s.segments in
    let read = ap (whole (parts_at form)) s.spelled ∙ parts_again form h.currency (map head_of h.entries) s.cut s.history.currency (are_heads form h.entries s.history.count s.history.each has) fits in
    let entries = replay_again (length bytes - bytes_before_heads) [] h.entries s.history.each s.history.legal in
    let uncut = segment_rows (cut_rows s.cut) in
    let rows : replayed (length bytes - bytes_before_heads) [] (map head_of h.entries) uncut ≡ Ok h.entries = rw s.rows entries in
    let many : length uncut ≡ row_counts (map head_of h.entries) = rw s.rows (as_many h.entries) in
    rw read (from_parts (length bytes) h.currency (map head_of h.entries) uncut h.entries many rows)

pub states_one : (bytes : List ℕ) (a b : History) → Spells bytes a → Spells bytes b → a ≡ b
states_one bytes a b s t = ok_is a b (sym (state_again Two bytes a s (all_of_two a.entries)) ∙ state_again Two bytes b t (all_of_two b.entries))

-- ---- writing

each_spelled : (segments : List (List Charge)) → flat_map (λ (s : SegmentLayout × List Charge). segment s.0 s.1) (by_column segments) ≡ flat_map (segment Columns) segments
each_spelled [] = refl
each_spelled (rows ∷ segments) = ap (λ (w : List ℕ). segment Columns rows ++ w) (each_spelled segments)

all_spelled : (segments : List (List Charge)) → listed (λ (s : SegmentLayout × List Charge). segment s.0 s.1) (by_column segments) ≡ listed (segment Columns) segments
all_spelled segments = rw (length-map {B = SegmentLayout × List Charge} segments (λ (rows : List Charge). (Columns, rows)), each_spelled segments) refl

-- the three parts, written one behind the other
pub spelled_in_turn : (currency : List ℕ) (hs : List HeadValue) (segments : List (List Charge)) (first one two three : List ℕ) → one ≡ first ++ text currency → two ≡ one ++ heads hs → three ≡ two ++ listed (segment Columns) segments
    → three ≡ first ++ state currency hs (by_column segments)
unfolding state
spelled_in_turn currency hs segments first one two three a b c =
    let laid : three ≡ two ++ listed (λ (s : SegmentLayout × List Charge). segment s.0 s.1) (by_column segments) = c ∙ ap (λ (w : List ℕ). two ++ w) (sym (all_spelled segments)) in
    laid ∙ (ap (λ (w : List ℕ). w ++ listed (λ (s : SegmentLayout × List Charge). segment s.0 s.1) (by_column segments)) (b ∙ ap (λ (w : List ℕ). w ++ heads hs) a) ∙ (simp append_assoc))

pub same_rows : (segments : List (List Charge)) → cut_rows (by_column segments) ≡ segments
same_rows [] = refl
same_rows (rows ∷ segments) = ap (λ (others : List (List Charge)). rows ∷ others) (same_rows segments)

-- 1 to 65,536 rows
abbrev pub IsSized : List Charge → Type 0
IsSized rows = (0 < length rows) × (length rows ≤ most_column_rows)

-- segments whose rows are those of entries are segments
pub are_segments : (segments : List (List Charge)) → All IsSized segments → All IsRow (segment_rows segments) → All IsSegment segments
are_segments [] sized each = All-nil IsSegment
are_segments (rows ∷ segments) sized each =
    let others = segment_rows segments in
    let size = All-head IsSized rows segments sized in
    let front : All IsRow rows = subst (All IsRow) (take-append_seam rows others) (All-take IsRow (length rows) (rows ++ others) each) in
    let back : All IsRow others = subst (All IsRow) (drop-append_seam rows others) (All-drop IsRow (length rows) (rows ++ others) each) in
    let one : IsSegment rows = record { some = size.0; few = size.1; each = front } in
    All-cons IsSegment rows segments one (are_segments segments (All-tail IsSized rows segments sized) back)

are_laid : (segments : List (List Charge)) → All IsSegment segments → All IsLaid (by_column segments)
are_laid [] each = All-nil IsLaid
are_laid (rows ∷ segments) each = All-cons IsLaid (Columns, rows) (by_column segments) (All-head IsSegment rows segments each) (are_laid segments (All-tail IsSegment rows segments each))

-- by column, and so in some layout
pub spells_some : (bytes : List ℕ) (h : History) (segments : List (List Charge)) → SpellsByColumn bytes h segments → Spells bytes h
spells_some bytes h segments s =
    let long : length (by_column segments) ≡ length segments = length-map {B = SegmentLayout × List Charge} segments (λ (rows : List Charge). (Columns, rows)) in
    record {
      cut = by_column segments;
      count = rw long s.count;
      segments = are_laid segments s.each;
      rows = ap segment_rows (same_rows segments) ∙ s.rows;
      history = s.history;
      spelled = s.spelled;
    }

posted_each : (c : CommandValue) → IsCommand c → All IsRow (posted c)
posted_each (post rows) h = h.each
posted_each (commit c) h = All-nil IsRow
posted_each (set_policy p) h = All-nil IsRow
posted_each (withdraw n) h = All-nil IsRow
posted_each (add_purchase a) h = All-nil IsRow

pub rows_are : (es : List EntryValue) → All IsEntry es → All IsRow (rows_posted es)
unfolding rows_posted
rows_are [] each = All-nil IsRow
rows_are (e ∷ es) each = All-append IsRow (posted e.command) (rows_posted es) (posted_each e.command (All-head IsEntry e es each).command) (rows_are es (All-tail IsEntry e es each))
