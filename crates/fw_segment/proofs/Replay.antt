-- The entries of heads, judged in turn.
use Rattle.std.proofs.Common.{◌≡◌, ◌≤◌, ◌-◌, ◌+◌, slice_get, ℕ, true, false, List, [], ◌∷◌, ◌++◌, length, take, drop, map, All, Some, Ok, Err, refl, sym, ap, ◌∙◌, arith, length-drop, append_assoc, append-nil}
use Rattle.std.proofs.lemmas.Bool.{le-leb}
use Rattle.std.proofs.lemmas.List.{drop-drop, length-take-le, take_more}
use Rattle.std.proofs.lemmas.Option.{get_or_from_slice_get, slice_get_within}
use Rattle.std.proofs.lemmas.List.Elements.{All-nil, All-cons, All-head, All-tail, All-take, All-drop}
use Rattle.std.proofs.Math.Seq.{take-append_seam, drop-append_seam}
use Rattle.fw_bytes.proofs.Laws.{passed, ok_is}
use Rattle.fw_charge.specs.Charge.{Charge}
use Rattle.fw_charge.specs.Spelling.{IsRow}
use Rattle.fw_entry.specs.Entry.{EntryValue}
use Rattle.fw_entry.specs.Spelling.{entry, most_entry_bytes, IsCommand, IsEntry}
use Rattle.fw_posted.specs.Rows.{segment_rows}
use Rattle.fw_snapshot.specs.Heads.{ContentValue, HeadValue, head_of, content_of, command_of, entry_of, entries_of, row_count, row_counts, HasRows}
use Rattle.fw_snapshot.specs.Heads.ContentValue.{posted_rows, committed_to, policy_set, post_withdrawn, purchase_added}
use Rattle.fw_snapshot.specs.History.{History, rows_posted, posted}
use Rattle.fw_snapshot.specs.Judging.{judged, IsLegalAfter}
use Rattle.fw_snapshot.specs.Building.{Built, left_rows, with_next}
use Rattle.fw_snapshot.specs.Verdicts.{goes_behind}
use Rattle.fw_snapshot.specs.declared.verdict.Verdict.TheVariants as verdict
use Rattle.fw_snapshot.proofs.BuildingFacts.{behind_parts}
use Rattle.fw_snapshot.proofs.HeadFacts.{row_counts_cons, row_count_back, entry_back}
use Rattle.fw_segment.specs.Heads.{head, IsContent, IsHead}
use Rattle.fw_segment.specs.States.{continued, replayed}

pub behind_from : (entries : List EntryValue) (e : EntryValue) → length (entry e) ≤ most_entry_bytes → judged entries e ≡ verdict.Accept → goes_behind entries e ≡ true
unfolding goes_behind
behind_from entries e small accept = rw (le-leb _ _ small, accept) refl

-- the command of a head, with the rows that it says
pub is_command : (c : ContentValue) (rows : List Charge) → IsContent c → length rows ≡ row_count c → All IsRow rows → IsCommand (command_of c rows)
is_command (posted_rows n) rows h e each = record { count = record { some = omega (arith, h.0, e); few = omega (arith, h.1, e) }; each = each }
is_command (committed_to c) rows h e each = h
is_command (policy_set p) rows h e each = h
is_command (post_withdrawn n) rows h e each = h
is_command (purchase_added a) rows h e each = h

pub is_entry : (h : HeadValue) (rows : List Charge) → IsHead h → length rows ≡ row_count h.content → All IsRow rows → length (entry (entry_of h rows)) ≤ most_entry_bytes → IsEntry (entry_of h rows)
is_entry h rows is e each small = record { origin = is.origin; some_seq = is.seq.0; seq = is.seq.1; command = is_command h.content rows is.content e each; size = small }

pub rest_fits : (h : HeadValue) (hs : List HeadValue) (rows : List Charge) → length rows ≡ row_counts (h ∷ hs) → (row_count h.content ≤ length rows) × (length (drop (row_count h.content) rows) ≡ row_counts hs)
rest_fits h hs rows e =
    let sum = row_counts_cons h hs in
    let rest = length-drop (row_count h.content) rows in
    (omega arith, omega arith)

-- what was replayed is the entries of the heads, each one an entry that was accepted after those before it
pub record IsReplay (first : List EntryValue) (hs : List HeadValue) (rows : List Charge) (es : List EntryValue) : Type 0 where
  pub is : es ≡ first ++ entries_of hs rows
  pub legal : IsLegalAfter first (entries_of hs rows)
  pub each : All IsEntry (entries_of hs rows)

pub replay_taken : (left : ℕ) (first : List EntryValue) (hs : List HeadValue) (rows : List Charge) (es : List EntryValue) → length rows ≡ row_counts hs → All IsHead hs → All IsRow rows → replayed left first hs rows ≡ Ok es → IsReplay first hs rows es
unfolding replayed entries_of IsLegalAfter
replay_taken left first [] rows es e heads each read = record { is = sym (ok_is first es read) ∙ sym (append-nil first); legal = tt; each = All-nil IsEntry }
replay_taken left first (h ∷ hs) rows es e heads each read =
    let n = row_count h.content in
    let one = entry_of h (take n rows) in
    let fits = rest_fits h hs rows e in
    let p = passed (goes_behind first one) left (replayed (left - length (head h)) (first ++ one ∷ []) hs (drop n rows)) es read in
    let parts = behind_parts first one p.0 in
    let is = is_entry h (take n rows) (All-head IsHead h hs heads) (length-take-le n rows fits.0) (All-take IsRow n rows each) parts.0 in
    let rest = replay_taken (left - length (head h)) (first ++ one ∷ []) hs (drop n rows) es fits.1 (All-tail IsHead h hs heads) (All-drop IsRow n rows each) p.1 in
    record { is = rest.is ∙ append_assoc first (one ∷ []) (entries_of hs (drop n rows)); legal = (parts.1, rest.legal); each = All-cons IsEntry one (entries_of hs (drop n rows)) is rest.each }

-- entries that are accepted in turn are replayed from their heads and rows
pub replay_again : (left : ℕ) (first es : List EntryValue) → All IsEntry es → IsLegalAfter first es → replayed left first (map head_of es) (rows_posted es) ≡ Ok (first ++ es)
unfolding replayed rows_posted IsLegalAfter
replay_again left first [] each legal = ap (λ (x : List EntryValue). Ok x) (sym (append-nil first))
replay_again left first (e ∷ es) each legal =
    let n = row_count (content_of e.command) in
    let rest = rows_posted es in
    let seam : n ≡ length (posted e.command) = row_count_back e.command in
    let front : take n (posted e.command ++ rest) ≡ posted e.command = rw seam (take-append_seam (posted e.command) rest) in
    let back : drop n (posted e.command ++ rest) ≡ rest = rw seam (drop-append_seam (posted e.command) rest) in
    let small = (All-head IsEntry e es each).size in
    let tail = replay_again (left - length (head (head_of e))) (first ++ e ∷ []) es (All-tail IsEntry e es each) legal.1 in
    rw (front, back, entry_back e, behind_from first e small legal.0) (tail ∙ ap (λ (x : List EntryValue). Ok x) (append_assoc first (e ∷ []) es))

-- ---- heads in turn, with the rows that they take

pub no_row_counts : row_counts [] ≡ 0
unfolding row_counts
no_row_counts = refl

-- where the entry of the first head goes behind the others, it is the turn of the next head
pub continued_on : (left : ℕ) (h : History) (g : HeadValue) (hs : List HeadValue) (rows : List Charge) → goes_behind h.entries (entry_of g (take (row_count g.content) rows)) ≡ true
    → continued left h (g ∷ hs) rows ≡ continued (left - length (head g)) (record { currency = h.currency; entries = h.entries ++ entry_of g (take (row_count g.content) rows) ∷ [] }) hs (drop (row_count g.content) rows)
unfolding continued replayed
continued_on left h g hs rows goes = rw goes refl

-- where it doesn't, there is a fault at this head
pub continued_off : (left : ℕ) (h : History) (g : HeadValue) (hs : List HeadValue) (rows : List Charge) → goes_behind h.entries (entry_of g (take (row_count g.content) rows)) ≡ false
    → continued left h (g ∷ hs) rows ≡ Err left
unfolding continued replayed
continued_off left h g hs rows never = rw never refl

pub continued_end : (left : ℕ) (h : History) (rows : List Charge) → continued left h [] rows ≡ Ok h
unfolding continued replayed
continued_end left h rows = refl

-- the rows that are left behind those of the next entry
pub left_next : (b : Built) (h : HeadValue) → left_rows (with_next b h) ≡ drop (row_count h.content) (left_rows b)
left_next b h = sym (drop-drop (row_count h.content) b.taken (segment_rows b.segments))

pub has_rows : (c : ContentValue) → IsContent c → HasRows c
has_rows (posted_rows n) h = h
has_rows (committed_to c) h = tt
has_rows (policy_set p) h = tt
has_rows (post_withdrawn n) h = tt
has_rows (purchase_added a) h = tt

-- the rows that the heads up to one say, and that one
row_counts_last : (hs : List HeadValue) (h : HeadValue) → row_counts (hs ++ h ∷ []) ≡ row_counts hs + row_count h.content
row_counts_last [] h =
    let one = row_counts_cons h [] in
    let none = no_row_counts in
    omega (arith, one, none)
row_counts_last (g ∷ hs) h =
    let first = row_counts_cons g (hs ++ h ∷ []) in
    let rest = row_counts_last hs h in
    let whole = row_counts_cons g hs in
    omega (arith, first, rest, whole)

pub row_counts_next : (hs : List HeadValue) (i : ℕ) (h : HeadValue) → slice_get hs i ≡ Some h → row_counts (take (i + 1) hs) ≡ row_counts (take i hs) + row_count h.content
row_counts_next hs i h there =
    ap row_counts (take_more hs i h (slice_get_within hs i h there) ∙ ap (λ g. take i hs ++ g ∷ []) (get_or_from_slice_get hs i h h there))
    ∙ row_counts_last (take i hs) h
