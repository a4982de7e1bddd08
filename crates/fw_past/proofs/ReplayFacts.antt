-- The first entries of a list, which are accepted again one by one.
use Rattle.std.proofs.Common.{◌≡◌, ◌≤◌, ◌<◌, ◌∙◌, ◌+◌, ◌++◌, ℕ, true, List, [], ◌∷◌, length, length-append, length-take, take, drop, map, min, refl, sym, ap, subst, arith, slice_get, Some, All, option_map, get_or}
use Rattle.std.proofs.lemmas.Bool.Decides.{nat_tests}
use Rattle.std.specs.Prelude.{nat_le}
use Rattle.std.proofs.lemmas.List.{drop_all, take_more, take-append-drop, get_or-take, drop-drop}
use Rattle.std.proofs.lemmas.List.Concat.{flat_map-append, flat_map-cons}
use Rattle.std.proofs.lemmas.List.Elements.{All-get_or}
use Rattle.std.proofs.lemmas.Option.{slice_get_within, slice_get-get_or, slice_get-map, get_or_from_slice_get, same_Some}
use Rattle.std.proofs.Math.Seq.{take-append_seam, drop-append_seam}
use Rattle.fw_charge.specs.Charge.{Charge}
use Rattle.fw_entries.proofs.Left.{from_place}
use Rattle.fw_entry.specs.Entry.{CommandValue, EntryValue}
use Rattle.fw_entry.specs.Entry.CommandValue.{post, commit, set_policy, withdraw, add_purchase}
use Rattle.fw_entry.specs.Spelling.{IsCommand, IsEntry, entry, most_entry_bytes}
use Rattle.fw_past.specs.Past.{as_of}
use Rattle.fw_posted.specs.Rows.{segment_rows}
use Rattle.fw_snapshot.specs.Building.{Built, left_rows, next_entry, with_next}
use Rattle.fw_snapshot.specs.Heads.{ContentValue, HasRows, HeadValue, content_of, entry_of, head_of, row_count}
use Rattle.fw_snapshot.specs.History.{History, posted, rows_posted}
use Rattle.fw_snapshot.specs.Judging.{IsLegal}
use Rattle.fw_snapshot.specs.Verdicts.{goes_behind, is_accept}
use Rattle.fw_snapshot.proofs.HeadFacts.{entry_back, row_count_back}
use Rattle.fw_past.proofs.PastFacts.{next_accepted}

-- an entry at a place: what stands before it, and what is left of the first entries from it on
pub record StandsAt (es : List EntryValue) (count place : ℕ) (e : EntryValue) : Type 0 where
  pub more : take (place + 1) es ≡ take place es ++ e ∷ []
  pub left : drop place (take count es) ≡ e ∷ drop (place + 1) (take count es)
  pub parted : es ≡ take place es ++ e ∷ drop (place + 1) es

pub stands_at : (es : List EntryValue) (count place : ℕ) (e : EntryValue) → place < count → slice_get es place ≡ Some e → StandsAt es count place e
stands_at es count place e within there =
    let inside = slice_get_within es place e there in
    let read : get_or es place e ≡ e = get_or_from_slice_get es place e e there in
    let first = take count es in
    let long : length first ≡ min count (length es) = length-take count es in
    let early : place < length first = omega (arith, long, inside, within) in
    let same : slice_get first place ≡ Some e = slice_get-get_or first place e early ∙ ap Some (get_or-take count es place e within ∙ read) in
    record {
      more = take_more es place e inside ∙ ap (λ (x : EntryValue). take place es ++ x ∷ []) read;
      left = from_place first place e same;
      parted = sym (take-append-drop place es) ∙ ap (λ (l : List EntryValue). take place es ++ l) (from_place es place e there);
    }

-- the entry whose head stands at a place
pub record HasHead (es : List EntryValue) (place : ℕ) (h : HeadValue) : Type 0 where
  pub e : EntryValue
  pub there : slice_get es place ≡ Some e
  pub head : h ≡ head_of e

pub has_head : (es : List EntryValue) (place : ℕ) (h : HeadValue) → place < length es → slice_get (map head_of es) place ≡ Some h → HasHead es place h
has_head [] place h within at = absurd (omega (arith, within))
has_head (e ∷ es) place h within at =
    let found = get_or (e ∷ es) place e in
    let there : slice_get (e ∷ es) place ≡ Some found = slice_get-get_or (e ∷ es) place e within in
    let mapped : slice_get (map head_of (e ∷ es)) place ≡ Some (head_of found) =
    slice_get-map head_of (e ∷ es) place ∙ ap (option_map head_of) there in
    record { e = found; there = there; head = same_Some h (head_of found) (sym at ∙ mapped) }

-- what the next entry is, and what is left behind it, where the rows that are left are those of the entries that are left
pub record TakesRows (left : List Charge) (rest : List EntryValue) (e : EntryValue) : Type 0 where
  pub entry : entry_of (head_of e) (take (row_count (content_of e.command)) left) ≡ e
  pub behind : drop (row_count (content_of e.command)) left ≡ rows_posted rest
  pub enough : row_count (content_of e.command) ≤ length left

pub rows_cons : (e : EntryValue) (es : List EntryValue) → rows_posted (e ∷ es) ≡ posted e.command ++ rows_posted es
unfolding rows_posted
rows_cons e es = flat_map-cons (λ (x : EntryValue). posted x.command) e es

pub takes_rows : (left : List Charge) (rest : List EntryValue) (e : EntryValue) → left ≡ rows_posted (e ∷ rest) → TakesRows left rest e
takes_rows left rest e is =
    let n = row_count (content_of e.command) in
    let all : left ≡ posted e.command ++ rows_posted rest = is ∙ rows_cons e rest in
    let seam : n ≡ length (posted e.command) = row_count_back e.command in
    let long : length left ≡ length (posted e.command) + length (rows_posted rest) = ap length all ∙ length-append (posted e.command) (rows_posted rest) in
    let front : take n left ≡ posted e.command = rw all (rw seam (take-append_seam (posted e.command) (rows_posted rest))) in
    record {
      entry = ap (entry_of (head_of e)) front ∙ entry_back e;
      behind = rw all (rw seam (drop-append_seam (posted e.command) (rows_posted rest)));
      enough = omega (arith, long, seam);
    }

rows_append : (es fs : List EntryValue) → rows_posted (es ++ fs) ≡ rows_posted es ++ rows_posted fs
unfolding rows_posted
rows_append es fs = flat_map-append (λ (x : EntryValue). posted x.command) es fs

pub no_rows : length (rows_posted []) ≡ 0
unfolding rows_posted
no_rows = refl

-- how many rows the first entries have, with one entry more
rows_more : (es : List EntryValue) (place : ℕ) (e : EntryValue) → take (place + 1) es ≡ take place es ++ e ∷ []
    → length (rows_posted (take (place + 1) es)) ≡ length (rows_posted (take place es)) + row_count (content_of e.command)
rows_more es place e more =
    let one : rows_posted (e ∷ []) ≡ posted e.command ++ rows_posted [] = rows_cons e [] in
    let all = ap rows_posted more ∙ rows_append (take place es) (e ∷ []) in
    let long = ap length all ∙ length-append (rows_posted (take place es)) (rows_posted (e ∷ [])) in
    let last = ap length one ∙ length-append (posted e.command) (rows_posted []) in
    omega (arith, long, last, no_rows, row_count_back e.command)

pub rows_at : (es : List EntryValue) (place : ℕ) (h : HeadValue) → place + 1 ≤ length es → slice_get (map head_of es) place ≡ Some h
    → length (rows_posted (take (place + 1) es)) ≡ length (rows_posted (take place es)) + row_count h.content
rows_at es place h within at =
    let found = has_head es place h (omega (arith, within)) at in
    let here = stands_at es (place + 1) place found.e (omega arith) found.there in
    let brings : row_count h.content ≡ row_count (content_of found.e.command) = ap (λ (x : HeadValue). row_count x.content) found.head in
    rows_more es place found.e here.more ∙ ap (λ (n : ℕ). length (rows_posted (take place es)) + n) (sym brings)

-- the rows of the first entries are the first rows
pub first_rows : (es : List EntryValue) (n : ℕ) → take (length (rows_posted (take n es))) (rows_posted es) ≡ rows_posted (take n es)
first_rows es n =
    let all : rows_posted es ≡ rows_posted (take n es) ++ rows_posted (drop n es) =
    ap rows_posted (sym (take-append-drop n es)) ∙ rows_append (take n es) (drop n es) in
    ap (take (length (rows_posted (take n es)))) all ∙ take-append_seam (rows_posted (take n es)) (rows_posted (drop n es))

-- and no more than all
pub first_few : (es : List EntryValue) (n : ℕ) → length (rows_posted (take n es)) ≤ length (rows_posted es)
first_few es n =
    let all : rows_posted es ≡ rows_posted (take n es) ++ rows_posted (drop n es) =
    ap rows_posted (sym (take-append-drop n es)) ∙ rows_append (take n es) (drop n es) in
    let long = ap length all ∙ length-append (rows_posted (take n es)) (rows_posted (drop n es)) in
    omega (arith, long)

-- a post has 1 to 4,096 rows
pub has_rows : (c : CommandValue) → IsCommand c → HasRows (content_of c)
has_rows (post rows) is = (is.count.some, is.count.few)
has_rows (commit c) is = tt
has_rows (set_policy p) is = tt
has_rows (withdraw n) is = tt
has_rows (add_purchase a) is = tt

-- the next entry of a legal list goes behind those before it
pub goes : (front rest es : List EntryValue) (e : EntryValue) → IsLegal es → es ≡ front ++ e ∷ rest → length (entry e) ≤ most_entry_bytes → goes_behind front e ≡ true
unfolding goes_behind
goes front rest es e legal is short =
    let accepted = ap is_accept (next_accepted front rest es e legal is) in
    let fits : nat_le (length (entry e)) most_entry_bytes ≡ true = grind (arith, nat_tests, short) in
    rw fits (rw accepted refl)

-- each entry of a list keeps its limits
pub keeps_limits : (es : List EntryValue) (place : ℕ) (e : EntryValue) → slice_get es place ≡ Some e → All IsEntry es → IsEntry e
keeps_limits es place e there all =
    subst IsEntry (get_or_from_slice_get es place e e there) (All-get_or IsEntry es place e (slice_get_within es place e there) all)

-- so many entries were accepted again, and the rows that are left are those of the others
pub record IsReplayed (b : Built) (h : History) (count place : ℕ) : Type 0 where
  pub history : b.history ≡ as_of place h
  pub left : left_rows b ≡ rows_posted (drop place (take count h.entries))

-- none was accepted yet
pub none_replayed : (b : Built) (h : History) (count : ℕ) → b.history ≡ as_of 0 h → b.taken ≡ 0 → segment_rows b.segments ≡ rows_posted (take count h.entries) → IsReplayed b h count 0
none_replayed b h count history taken rows =
    record { history = history; left = ap (λ (n : ℕ). drop n (segment_rows b.segments)) taken ∙ rows }

-- what the next entry has of the rows that are left
pub next_takes : (b : Built) (h : History) (count place : ℕ) (e : EntryValue) → IsReplayed b h count place → StandsAt h.entries count place e
    → TakesRows (left_rows b) (drop (place + 1) (take count h.entries)) e
next_takes b h count place e so_far at = takes_rows (left_rows b) (drop (place + 1) (take count h.entries)) e (so_far.left ∙ ap rows_posted at.left)

-- the next entry is accepted again
pub replayed_more : (b : Built) (h : History) (count place : ℕ) (e : EntryValue) → IsReplayed b h count place → StandsAt h.entries count place e
    → IsReplayed (with_next b (head_of e)) h count (place + 1)
replayed_more b h count place e so_far at =
    let takes = next_takes b h count place e so_far at in
    let n = row_count (content_of e.command) in
    let currency : b.history.currency ≡ h.currency = ap (λ (x : History). x.currency) so_far.history in
    let before : b.history.entries ≡ take place h.entries = ap (λ (x : History). x.entries) so_far.history in
    let entries : b.history.entries ++ next_entry b (head_of e) ∷ [] ≡ take (place + 1) h.entries =
    ap (λ (es : List EntryValue). es ++ next_entry b (head_of e) ∷ []) before
    ∙ ap (λ (x : EntryValue). take place h.entries ++ x ∷ []) takes.entry
    ∙ sym at.more in
    record {
      history = rw currency (rw entries refl);
      left = sym (drop-drop n b.taken (segment_rows b.segments)) ∙ takes.behind;
    }

-- all were accepted again: no row is left
pub all_replayed : (b : Built) (h : History) (count place : ℕ) → IsReplayed b h count place → count ≤ place → length (left_rows b) ≡ 0
all_replayed b h count place so_far past =
    let few : length (take count h.entries) ≤ place = omega (arith, length-take count h.entries, past) in
    let gone : drop place (take count h.entries) ≡ [] = drop_all place (take count h.entries) few in
    ap length (so_far.left ∙ ap rows_posted gone) ∙ no_rows

-- a head of these parts
pub same_head : (h : HeadValue) (origin : List ℕ) (seq : ℕ) (content : ContentValue) → origin ≡ h.origin → seq ≡ h.seq → content ≡ h.content
    → (let made : HeadValue = record { origin = origin; seq = seq; content = content } in made) ≡ h
same_head h origin seq content o s c = rw o (rw s (rw c refl))
