-- Rows that are taken from the front of segments, and entries that take theirs.
use Rattle.std.proofs.Common.{◌≡◌, ◌∙◌, ◌+◌, ◌-◌, ◌≤◌, ◌<◌, ℕ, suc, List, [], ◌∷◌, ◌++◌, length, length-append, length-drop, take, drop, map, min, refl, sym, ap, subst, add-one, append-nil, append_assoc, arith}
use Rattle.std.specs.Prelude.{All, Some, slice_get, slice_range}
use Rattle.std.proofs.Math.Seq.{drop-cons, drop-nil, drop-append-add, take-append-add}
use Rattle.std.proofs.lemmas.List.{length-take, take_all, drop_all, drop-append-le, drop-drop, take-append-drop}
use Rattle.std.proofs.lemmas.Option.{slice_get_within, get_or_from_slice_get}
use Rattle.std.proofs.lemmas.List.Elements.{All-head, All-tail}
use Rattle.fw_charge.specs.Charge.{Charge}
use Rattle.fw_entry.specs.Entry.{EntryValue}
use Rattle.fw_entry.specs.Entry.CommandValue.{post}
use Rattle.fw_entry.specs.Spelling.{IsEntry}
use Rattle.fw_posted.specs.Rows.{segment_rows}
use Rattle.fw_snapshot.specs.Heads.{ContentValue, HeadValue, command_of, entries_of, entry_of, head_of, row_count}
use Rattle.fw_snapshot.specs.Heads.ContentValue.{posted_rows, committed_to, policy_set, post_withdrawn, purchase_added}
use Rattle.fw_snapshot.specs.History.{posted, rows_posted}
use Rattle.fw_snapshot.proofs.HeadFacts.{entries_back}
use Rattle.fw_entries.specs.RowsLeft.{rows_behind}

-- what is left of a list from a place on begins with the item there
pub from_place : {A : Type 0} (xs : List A) (n : ℕ) (x : A) → slice_get xs n ≡ Some x → drop n xs ≡ x ∷ drop (n + 1) xs
from_place xs n x there =
    drop-cons xs n x (slice_get_within xs n x there)
    ∙ ap (λ y. y ∷ drop (suc n) xs) (get_or_from_slice_get xs n x x there)
    ∙ ap (λ m. x ∷ drop m xs) (sym (add-one n))

-- no row is taken of the first segment
pub all_left : (segments : List (List Charge)) → rows_behind 0 segments ≡ segment_rows segments
unfolding rows_behind
all_left [] = refl
all_left (segment ∷ segments) = refl

-- there is no further segment
pub none_left : (taken n : ℕ) (segments : List (List Charge)) → length segments ≤ n → rows_behind taken (drop n segments) ≡ []
unfolding rows_behind
none_left taken n segments past = rw (drop_all n segments past) refl

-- a row is taken
pub one_taken : (taken n : ℕ) (segments : List (List Charge)) (segment : List Charge) (row : Charge) → slice_get segments n ≡ Some segment → slice_get segment taken ≡ Some row
    → rows_behind taken (drop n segments) ≡ row ∷ rows_behind (taken + 1) (drop n segments)
unfolding rows_behind
one_taken taken n segments segment row there item =
    let split = from_place segments n segment there in
    rw split (ap (λ (rows : List Charge). rows ++ segment_rows (drop (n + 1) segments)) (from_place segment taken row item))

-- all rows of a segment are taken
pub segment_taken : (taken n : ℕ) (segments : List (List Charge)) (segment : List Charge) → slice_get segments n ≡ Some segment → length segment ≤ taken
    → rows_behind taken (drop n segments) ≡ rows_behind 0 (drop (n + 1) segments)
unfolding rows_behind
segment_taken taken n segments segment there past =
    let split = from_place segments n segment there in
    rw split (ap (λ (rows : List Charge). rows ++ segment_rows (drop (n + 1) segments)) (drop_all taken segment past) ∙ sym (all_left (drop (n + 1) segments)))

-- rows of the first segment are taken, up to one
pub run_taken : (taken end n : ℕ) (segments : List (List Charge)) (segment : List Charge) → slice_get segments n ≡ Some segment → taken ≤ end
    → rows_behind taken (drop n segments) ≡ slice_range segment taken end ++ rows_behind end (drop n segments)
unfolding rows_behind
run_taken taken end n segments segment there order =
    let split = from_place segments n segment there in
    let count = end - taken in
    let at : taken + count ≡ end = omega (arith, order) in
    let behind : drop count (drop taken segment) ≡ drop end segment = drop-drop count taken segment ∙ ap (λ (k : ℕ). drop k segment) at in
    let cut : drop taken segment ≡ take count (drop taken segment) ++ drop end segment =
    sym (take-append-drop count (drop taken segment)) ∙ ap (λ (rows : List Charge). take count (drop taken segment) ++ rows) behind in
    rw split (
    ap (λ (rows : List Charge). rows ++ segment_rows (drop (n + 1) segments)) cut
    ∙ append_assoc (take count (drop taken segment)) (drop end segment) (segment_rows (drop (n + 1) segments))
    )

-- the next rows of an entry are taken
pub run_of_entry : (all run later : List Charge) (left : ℕ) → all ≡ run ++ later → length run ≤ left → take left all ≡ run ++ take (left - length run) later
run_of_entry all run later left is few =
    let parts : left ≡ length run + (left - length run) = omega (arith, few) in
    ap (take left) is
    ∙ ap (λ (k : ℕ). take k (run ++ later)) parts
    ∙ take-append-add run later (left - length run)

-- a run has as many rows as stand between its ends
pub length_of_run : (rows : List Charge) (first end : ℕ) → first ≤ end → end ≤ length rows → length (slice_range rows first end) ≡ end - first
length_of_run rows first end order within =
    let size = length-take (end - first) (drop first rows) in
    let rest = length-drop first rows in
    omega (arith, size, rest, order, within)

-- a row goes behind those that were taken
pub one_more : (all front rest later : List Charge) (row : Charge) → all ≡ front ++ rest → rest ≡ row ∷ later → all ≡ (front ++ row ∷ []) ++ later
one_more all front rest later row is begins = is ∙ ap (λ (rows : List Charge). front ++ rows) begins ∙ sym (append_assoc front (row ∷ []) later)

-- as long as fewer rows than are asked for were taken, there is room for the next one where there is room for all of them
pub room_left : (all front rest later : List Charge) (row : Charge) (count most : ℕ) → all ≡ front ++ rest → rest ≡ row ∷ later → length front < count → length (take count all) ≤ most
    → length front < most
room_left all front rest later row count most is begins fewer few =
    let long : length all ≡ length front + length rest = ap length is ∙ length-append front rest in
    let some : length rest ≡ suc (length later) = ap length begins in
    let taken : length (take count all) ≡ min count (length all) = length-take count all in
    omega (arith, long, some, taken, fewer, few)

-- nothing is left: all was taken
pub all_taken : (all front rest : List Charge) (count : ℕ) → all ≡ front ++ rest → rest ≡ [] → length front ≤ count → (front ≡ take count all) × (rest ≡ drop count all)
all_taken all front rest count is none few =
    let same : all ≡ front = is ∙ ap (λ (rows : List Charge). front ++ rows) none ∙ append-nil front in (
      sym (ap (take count) same ∙ take_all count front few),
      none ∙ sym (ap (drop count) same ∙ drop_all count front few),
    )

-- a turn takes a row, or goes on to the next segment
pub fewer_rows : (old new : List Charge) (row : Charge) (segments : ℕ) → old ≡ row ∷ new → length new + segments < length old + segments
fewer_rows old new row segments is = let long = ap length is in omega arith

pub fewer_segments : (old new : List Charge) (segment segments : ℕ) → old ≡ new → segment < segments → length new + (segments - (segment + 1)) < length old + (segments - segment)
fewer_segments old new segment segments is within = let long = ap length is in omega arith

-- rows of a segment are passed over
pub some_skipped : (taken left n : ℕ) (segments : List (List Charge)) (segment : List Charge) → slice_get segments n ≡ Some segment → left < length segment - taken
    → rows_behind (taken + left) (drop n segments) ≡ drop left (rows_behind taken (drop n segments))
unfolding rows_behind
some_skipped taken left n segments segment there few =
    let split = from_place segments n segment there in
    let within : left ≤ length (drop taken segment) = omega (arith, few, length-drop taken segment) in
    rw split (sym (
    drop-append-le left (drop taken segment) (segment_rows (drop (n + 1) segments)) within
    ∙ ap (λ (rows : List Charge). rows ++ segment_rows (drop (n + 1) segments)) (drop-drop left taken segment)
    ))

-- all rows of a segment are passed over
pub segment_skipped : (taken left n : ℕ) (segments : List (List Charge)) (segment : List Charge) → slice_get segments n ≡ Some segment → length segment - taken ≤ left
    → drop (left - (length segment - taken)) (rows_behind 0 (drop (n + 1) segments)) ≡ drop left (rows_behind taken (drop n segments))
unfolding rows_behind
segment_skipped taken left n segments segment there many =
    let split = from_place segments n segment there in
    let rest = left - (length segment - taken) in
    let parts : left ≡ length (drop taken segment) + rest = omega (arith, many, length-drop taken segment) in
    rw split (
    ap (λ (rows : List Charge). drop rest rows) (all_left (drop (n + 1) segments))
    ∙ sym (
    ap (λ (k : ℕ). drop k (drop taken segment ++ segment_rows (drop (n + 1) segments))) parts
    ∙ drop-append-add (drop taken segment) (segment_rows (drop (n + 1) segments)) rest
    )
    )

-- nothing is left to pass over
pub none_skipped : (left : ℕ) (rows skipped : List Charge) → rows ≡ [] → drop left rows ≡ skipped → rows ≡ skipped
none_skipped left rows skipped none is = none ∙ sym (drop-nil left) ∙ sym (ap (drop left) none) ∙ is

-- the entry of the first head that is left, and those behind it
pub record IsSplit (heads : List HeadValue) (rows : List Charge) (taken : ℕ) (h : HeadValue) : Type 0 where
  pub split : entries_of (drop taken heads) rows ≡ entry_of h (take (row_count h.content) rows) ∷ entries_of (drop (taken + 1) heads) (drop (row_count h.content) rows)
  pub entry : All IsEntry (entries_of (drop taken heads) rows) → IsEntry (entry_of h (take (row_count h.content) rows))
  pub each : All IsEntry (entries_of (drop taken heads) rows) → All IsEntry (entries_of (drop (taken + 1) heads) (drop (row_count h.content) rows))
  pub heads_are : map head_of (entries_of (drop taken heads) rows) ≡ drop taken heads
      → map head_of (entries_of (drop (taken + 1) heads) (drop (row_count h.content) rows)) ≡ drop (taken + 1) heads

same_tail : {A : Type 0} (x y : A) (xs ys : List A) → x ∷ xs ≡ y ∷ ys → xs ≡ ys
same_tail x y xs ys is = cc

pub split_at : (heads : List HeadValue) (rows : List Charge) (taken : ℕ) (h : HeadValue) → slice_get heads taken ≡ Some h → IsSplit heads rows taken h
unfolding entries_of
split_at heads rows taken h there =
    let first = entry_of h (take (row_count h.content) rows) in
    let rest = entries_of (drop (taken + 1) heads) (drop (row_count h.content) rows) in
    let cut = from_place heads taken h there in
    let is : entries_of (drop taken heads) rows ≡ first ∷ rest = ap (λ (hs : List HeadValue). entries_of hs rows) cut in
    record {
      split = is;
      entry = λ all. All-head IsEntry first rest (subst (λ (es : List EntryValue). All IsEntry es) is all);
      each = λ all. All-tail IsEntry first rest (subst (λ (es : List EntryValue). All IsEntry es) is all);
      heads_are = λ same. same_tail (head_of first) h (map head_of rest) (drop (taken + 1) heads) (sym (ap (map head_of) is) ∙ same ∙ cut);
    }

-- no entry is left where no head is
pub none_split : (heads : List HeadValue) (rows : List Charge) (taken : ℕ) → length heads ≤ taken → entries_of (drop taken heads) rows ≡ []
unfolding entries_of
none_split heads rows taken past = ap (λ (hs : List HeadValue). entries_of hs rows) (drop_all taken heads past)

-- a list without its first item is what is left behind that
pub rest_is : (entries rest : List EntryValue) (first : EntryValue) → entries ≡ first ∷ rest → rest ≡ drop 1 entries
rest_is entries rest first is = sym (ap (drop 1) is)

-- all entries are left of a warehouse, with its heads and its rows
pub all_entries : (entries : List EntryValue) (heads : List HeadValue) (rows : List Charge) → heads ≡ map head_of entries → rows ≡ rows_posted entries → entries_of (drop 0 heads) rows ≡ entries
all_entries entries heads rows is same =
    ap (λ (hs : List HeadValue). entries_of hs rows) is
    ∙ ap (λ (rs : List Charge). entries_of (map head_of entries) rs) same
    ∙ entries_back entries

-- what is left behind the first entry keeps what all that was left kept
pub keeps_next : (heads : List HeadValue) (rows next : List Charge) (taken : ℕ) (h : HeadValue) → IsSplit heads rows taken h → next ≡ drop (row_count h.content) rows
    → All IsEntry (entries_of (drop taken heads) rows) → map head_of (entries_of (drop taken heads) rows) ≡ drop taken heads
    → All IsEntry (entries_of (drop (taken + 1) heads) next) × (map head_of (entries_of (drop (taken + 1) heads) next) ≡ drop (taken + 1) heads)
keeps_next heads rows next taken h split is each same = (
  subst (λ (rs : List Charge). All IsEntry (entries_of (drop (taken + 1) heads) rs)) (sym is) (split.each each),
  ap (λ (rs : List Charge). map head_of (entries_of (drop (taken + 1) heads) rs)) is ∙ split.heads_are same,
)

-- the list is the first entry, and what is left behind it
pub first_and_rest : (heads : List HeadValue) (rows next : List Charge) (taken : ℕ) (h : HeadValue) (entries : List EntryValue) → IsSplit heads rows taken h → next ≡ drop (row_count h.content) rows
    → entries_of (drop taken heads) rows ≡ entries → entries ≡ entry_of h (take (row_count h.content) rows) ∷ entries_of (drop (taken + 1) heads) next
first_and_rest heads rows next taken h entries split is all =
    sym all ∙ split.split ∙ ap (λ (rs : List Charge). entry_of h (take (row_count h.content) rows) ∷ entries_of (drop (taken + 1) heads) rs) (sym is)

-- ---- the rows of the first entry that is left

posted_of : (content : ContentValue) (rows : List Charge) → posted (command_of content (take (row_count content) rows)) ≡ take (row_count content) rows
posted_of (posted_rows n) rows = refl
posted_of (committed_to c) rows = refl
posted_of (policy_set p) rows = refl
posted_of (post_withdrawn n) rows = refl
posted_of (purchase_added a) rows = refl

-- they are as many as its head says
pub next_rows : (heads : List HeadValue) (rows : List Charge) (taken : ℕ) (h : HeadValue) (entries : List EntryValue) → IsSplit heads rows taken h
    → entries_of (drop taken heads) rows ≡ entries → rows_posted (take 1 entries) ≡ take (row_count h.content) rows
unfolding rows_posted
next_rows heads rows taken h entries split all =
    let front = take (row_count h.content) rows in
    let rest = entries_of (drop (taken + 1) heads) (drop (row_count h.content) rows) in
    let is : entries ≡ entry_of h front ∷ rest = sym all ∙ split.split in
    ap (λ (es : List EntryValue). rows_posted (take 1 es)) is
    ∙ append-nil (posted (command_of h.content front))
    ∙ posted_of h.content rows

-- none are left where no head is
pub no_rows : (heads : List HeadValue) (rows : List Charge) (taken : ℕ) (entries : List EntryValue) → length heads ≤ taken → entries_of (drop taken heads) rows ≡ entries
    → rows_posted (take 1 entries) ≡ []
unfolding rows_posted
no_rows heads rows taken entries past all = ap (λ (es : List EntryValue). rows_posted (take 1 es)) (sym all ∙ none_split heads rows taken past)

-- the first entry is its head's, with its rows
pub first_is : (heads : List HeadValue) (rows : List Charge) (taken : ℕ) (h : HeadValue) (entries : List EntryValue) → IsSplit heads rows taken h
    → entries_of (drop taken heads) rows ≡ entries → slice_get entries 0 ≡ Some (entry_of h (take (row_count h.content) rows))
first_is heads rows taken h entries split all = ap (λ (es : List EntryValue). slice_get es 0) (sym all ∙ split.split)

-- the first entry is a post that has its origin, its number and its rows
pub first_is_post : (heads : List HeadValue) (rows part : List Charge) (taken : ℕ) (h : HeadValue) (entries : List EntryValue) (e : EntryValue) → IsSplit heads rows taken h
    → entries_of (drop taken heads) rows ≡ entries → h ≡ record { origin = e.origin; seq = e.seq; content = posted_rows (length part) } → rows_posted (take 1 entries) ≡ part
    → e.command ≡ post part → slice_get entries 0 ≡ Some e
first_is_post heads rows part taken h entries e split all is has command =
    let own : take (row_count h.content) rows ≡ part = sym (next_rows heads rows taken h entries split all) ∙ has in
    let made : entry_of h part ≡ e = ap (λ (x : HeadValue). entry_of x part) is ∙ (λ j. record { origin = e.origin; seq = e.seq; command = sym command j }) in
    first_is heads rows taken h entries split all ∙ ap (λ (rs : List Charge). Some (entry_of h rs)) own ∙ ap Some made
