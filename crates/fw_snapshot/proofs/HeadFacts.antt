-- The entries that heads and rows stand for.
use Rattle.std.proofs.Common.{◌≡◌, ◌+◌, ◌≤◌, List, [], ◌∷◌, ◌++◌, length, take, drop, map, refl, sym, ap, ◌∙◌, arith, length-drop}
use Rattle.std.proofs.lemmas.List.{nil_from_length, take-append-drop, take-append-le, drop-append-le, length-take-le, length-map, take_all}
use Rattle.std.proofs.lemmas.List.Sums.{sum_by-cons}
use Rattle.std.proofs.Math.Seq.{take-append_seam, drop-append_seam}
use Rattle.fw_charge.specs.Charge.{Charge}
use Rattle.fw_entry.specs.Entry.{CommandValue, EntryValue}
use Rattle.fw_entry.specs.Entry.CommandValue.{post, commit, set_policy, withdraw, add_purchase}
use Rattle.fw_snapshot.specs.History.{posted, rows_posted}
use Rattle.fw_snapshot.specs.Heads.{ContentValue, HeadValue, content_of, head_of, row_count, row_counts, command_of, entry_of, entries_of}
use Rattle.fw_snapshot.specs.Heads.ContentValue.{posted_rows, committed_to, policy_set, post_withdrawn, purchase_added}

pub row_counts_cons : (h : HeadValue) (heads : List HeadValue) → row_counts (h ∷ heads) ≡ row_count h.content + row_counts heads
unfolding row_counts
row_counts_cons h heads = sum_by-cons (λ h. row_count h.content) h heads

no_row_counts : row_counts [] ≡ 0
unfolding row_counts
no_row_counts = refl

-- what a command is, from its content and its rows
command_back : (c : CommandValue) → command_of (content_of c) (posted c) ≡ c
command_back (post rows) = refl
command_back (commit c) = refl
command_back (set_policy p) = refl
command_back (withdraw n) = refl
command_back (add_purchase a) = refl

pub entry_back : (e : EntryValue) → entry_of (head_of e) (posted e.command) ≡ e
entry_back e = ap (λ (c : CommandValue). let made : EntryValue = record { origin = e.origin; seq = e.seq; command = c } in made) (command_back e.command)

pub row_count_back : (c : CommandValue) → row_count (content_of c) ≡ length (posted c)
row_count_back (post rows) = refl
row_count_back (commit c) = refl
row_count_back (set_policy p) = refl
row_count_back (withdraw n) = refl
row_count_back (add_purchase a) = refl

pub posted_back : (c : ContentValue) (rows : List Charge) → posted (command_of c (take (row_count c) rows)) ≡ take (row_count c) rows
posted_back (posted_rows n) rows = refl
posted_back (committed_to c) rows = refl
posted_back (policy_set p) rows = refl
posted_back (post_withdrawn n) rows = refl
posted_back (purchase_added a) rows = refl

content_back : (c : ContentValue) (rows : List Charge) → row_count c ≤ length rows → content_of (command_of c (take (row_count c) rows)) ≡ c
content_back (posted_rows n) rows h = ap posted_rows (length-take-le n rows h)
content_back (committed_to c) rows h = refl
content_back (policy_set p) rows h = refl
content_back (post_withdrawn n) rows h = refl
content_back (purchase_added a) rows h = refl

-- the rows behind those of the first head are as many as the other heads say
rest_fits : (h : HeadValue) (heads : List HeadValue) (rows : List Charge) → length rows ≡ row_counts (h ∷ heads) → (row_count h.content ≤ length rows) × (length (drop (row_count h.content) rows) ≡ row_counts heads)
rest_fits h heads rows e =
    let sum = row_counts_cons h heads in
    let rest = length-drop (row_count h.content) rows in
    (omega arith, omega arith)

-- the rows of the entries are the rows
pub rows_posted_entries : (heads : List HeadValue) (rows : List Charge) → length rows ≡ row_counts heads → rows_posted (entries_of heads rows) ≡ rows
unfolding rows_posted entries_of
rows_posted_entries [] rows e = sym (nil_from_length rows (e ∙ no_row_counts))
rows_posted_entries (h ∷ heads) rows e =
    let n = row_count h.content in
    let fits = rest_fits h heads rows e in
    ap (λ xs. xs ++ rows_posted (entries_of heads (drop n rows))) (posted_back h.content rows)
    ∙ ap (λ ys. take n rows ++ ys) (rows_posted_entries heads (drop n rows) fits.1)
    ∙ take-append-drop n rows

pub head_back : (h : HeadValue) (rows : List Charge) → row_count h.content ≤ length rows → head_of (entry_of h (take (row_count h.content) rows)) ≡ h
head_back h rows fits = ap (λ (c : ContentValue). let made : HeadValue = record { origin = h.origin; seq = h.seq; content = c } in made) (content_back h.content rows fits)

-- the heads of the entries are the heads
pub heads_of_entries : (heads : List HeadValue) (rows : List Charge) → length rows ≡ row_counts heads → map head_of (entries_of heads rows) ≡ heads
unfolding entries_of
heads_of_entries [] rows e = refl
heads_of_entries (h ∷ heads) rows e =
    let n = row_count h.content in
    let fits = rest_fits h heads rows e in
    ap (λ g. g ∷ map head_of (entries_of heads (drop n rows))) (head_back h rows fits.0)
    ∙ ap (λ gs. h ∷ gs) (heads_of_entries heads (drop n rows) fits.1)

-- there are as many entries as heads
pub length_entries : (heads : List HeadValue) (rows : List Charge) → length rows ≡ row_counts heads → length (entries_of heads rows) ≡ length heads
length_entries heads rows e = sym (length-map (entries_of heads rows) head_of) ∙ ap length (heads_of_entries heads rows e)

-- the entries of one more head, whose rows stand behind the others
pub entries_of_more : (heads : List HeadValue) (rows : List Charge) (h : HeadValue) (more : List Charge) → length rows ≡ row_counts heads → row_count h.content ≡ length more → entries_of (heads ++ h ∷ []) (rows ++ more) ≡ entries_of heads rows ++ entry_of h more ∷ []
unfolding entries_of
entries_of_more [] rows h more e n =
    let none = nil_from_length rows (e ∙ no_row_counts) in
    let all = take_all (row_count h.content) more (omega arith) in
    rw none (rw all refl)
entries_of_more (g ∷ heads) rows h more e n =
    let c = row_count g.content in
    let fits = rest_fits g heads rows e in
    ap (λ xs. entry_of g xs ∷ entries_of (heads ++ h ∷ []) (drop c (rows ++ more))) (take-append-le c rows more fits.0)
    ∙ ap (λ xs. entry_of g (take c rows) ∷ entries_of (heads ++ h ∷ []) xs) (drop-append-le c rows more fits.0)
    ∙ ap (λ es. entry_of g (take c rows) ∷ es) (entries_of_more heads (drop c rows) h more fits.1 n)

-- the heads and the rows of entries stand for the entries
pub entries_back : (es : List EntryValue) → entries_of (map head_of es) (rows_posted es) ≡ es
unfolding entries_of rows_posted
entries_back [] = refl
entries_back (e ∷ es) =
    let n = row_count (content_of e.command) in
    let rest = rows_posted es in
    let seam : n ≡ length (posted e.command) = row_count_back e.command in
    let front : take n (posted e.command ++ rest) ≡ posted e.command = rw seam (take-append_seam (posted e.command) rest) in
    let back : drop n (posted e.command ++ rest) ≡ rest = rw seam (drop-append_seam (posted e.command) rest) in
    ap (λ xs. entry_of (head_of e) xs ∷ entries_of (map head_of es) (drop n (posted e.command ++ rest))) front
    ∙ ap (λ xs. entry_of (head_of e) (posted e.command) ∷ entries_of (map head_of es) xs) back
    ∙ ap (λ x. x ∷ entries_of (map head_of es) rest) (entry_back e)
    ∙ ap (λ xs. e ∷ xs) (entries_back es)
