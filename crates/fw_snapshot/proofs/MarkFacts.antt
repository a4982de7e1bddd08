-- What marks beside items select, and what the marks of entries say of the rows that the entries post.
use Rattle.std.proofs.Common.{◌≡◌, ◌+◌, ◌<◌, not, ℕ, zero, suc, List, [], ◌∷◌, ◌++◌, Some, Bool, true, false, if◌then◌else◌, length, take, drop, replicate, slice_get, refl, sym, ap, ◌∙◌, arith, length-append}
use Rattle.std.specs.List.{flat_map}
use Rattle.std.proofs.lemmas.List.{append-nil, append_assoc, length-replicate, take_at, drop_at}
use Rattle.std.proofs.lemmas.List.Concat.{flat_map-append}
use Rattle.fw_charge.specs.Charge.{Charge}
use Rattle.fw_entry.specs.Entry.{EntryValue}
use Rattle.fw_snapshot.specs.History.{posted, rows_posted, rows_of, counting, is_withdrawn}
use Rattle.fw_snapshot.specs.Posts.{posted_len, marked, stays, counts_of, IsSpanOf}
use Rattle.fw_posted.specs.Marks.{selected, without}
use Rattle.fw_snapshot.specs.declared.posts.Span.{Span}

-- ---- marks beside any items

pub selected_append : {A : Type 0} (marks more : List Bool) (items others : List A) → length marks ≡ length items → selected (marks ++ more) (items ++ others) ≡ selected marks items ++ selected more others
unfolding selected
selected_append [] more [] others long = refl
selected_append [] more (x ∷ items) others long = absurd (omega arith)
selected_append (m ∷ marks) more [] others long = absurd (omega arith)
selected_append (true ∷ marks) more (x ∷ items) others long = ap (λ xs. x ∷ xs) (selected_append marks more items others (omega arith))
selected_append (false ∷ marks) more (x ∷ items) others long = selected_append marks more items others (omega arith)

pub selected_all : {A : Type 0} (items : List A) → selected (replicate (length items) true) items ≡ items
unfolding selected
selected_all [] = refl
selected_all (x ∷ items) = ap (λ xs. x ∷ xs) (selected_all items)

pub selected_none : {A : Type 0} (items : List A) → selected (replicate (length items) false) items ≡ []
unfolding selected
selected_none [] = refl
selected_none (x ∷ items) = selected_none items

-- items that all have the same mark
pub selected_same : {A : Type 0} (mark : Bool) (items : List A) → selected (replicate (length items) mark) items ≡ (if mark then items else [])
selected_same true items = selected_all items
selected_same false items = selected_none items

-- ---- an element of a list, and those before and behind it

pub split_at : {A : Type 0} (xs : List A) (place : ℕ) (x : A) → slice_get xs place ≡ Some x → xs ≡ take place xs ++ (x ∷ drop (suc place) xs)
split_at [] place x at = absurd (cc)
split_at (y ∷ xs) zero x at = cc
split_at (y ∷ xs) (suc place) x at = ap (λ xs. y ∷ xs) (split_at xs place x at)

-- what stands between two parts of a list
pub middle_at : {A : Type 0} (before middle after : List A) (start count : ℕ) → length before ≡ start → length middle ≡ count → take count (drop start (before ++ (middle ++ after))) ≡ middle
middle_at before middle after start count first long = ap (take count) (drop_at before (middle ++ after) start first) ∙ take_at middle after count long

pub without_middle : (before middle after : List Bool) (start count : ℕ) → length before ≡ start → length middle ≡ count → without start count (before ++ (middle ++ after)) ≡ before ++ (replicate count false ++ after)
unfolding without
without_middle before middle after start count first long =
    let all = before ++ (middle ++ after) in
    let front : take start all ≡ before = take_at before (middle ++ after) start first in
    let both : length (before ++ middle) ≡ start + count = let sum = length-append before middle in omega arith in
    let back : drop (start + count) all ≡ after = ap (drop (start + count)) (sym (append_assoc before middle after)) ∙ drop_at (before ++ middle) after (start + count) both in
    ap (λ xs. xs ++ replicate count false ++ drop (start + count) all) front
    ∙ ap (λ xs. before ++ replicate count false ++ xs) back
    ∙ append_assoc before (replicate count false) after

first_of_many : (rest : List Bool) (mark : Bool) (count : ℕ) → 0 < count → slice_get (replicate count mark ++ rest) 0 ≡ Some mark
first_of_many rest mark zero some = absurd (omega arith)
first_of_many rest mark (suc count) some = refl

get_behind : {A : Type 0} (before after : List A) (start : ℕ) → length before ≡ start → slice_get (before ++ after) start ≡ slice_get after 0
get_behind [] after start long = let none : start ≡ 0 = omega arith in ap (slice_get after) none
get_behind (x ∷ before) after zero long = absurd (omega arith)
get_behind (x ∷ before) after (suc start) long = get_behind before after start (omega arith)

-- ---- the marks of entries

pub marked_count : (says : EntryValue → Bool) (es : List EntryValue) → length (marked says es) ≡ length (rows_posted es)
unfolding marked rows_posted
marked_count says [] = refl
marked_count says (e ∷ es) =
    let marks = length-append (replicate (posted_len e) (says e)) (marked says es) in
    let rows = length-append (posted e.command) (rows_posted es) in
    let each = length-replicate (posted_len e) (says e) in
    let rest = marked_count says es in
    omega arith

pub marked_append : (says : EntryValue → Bool) (es more : List EntryValue) → marked says (es ++ more) ≡ marked says es ++ marked says more
unfolding marked
marked_append says es more = flat_map-append (λ e. replicate (posted_len e) (says e)) es more

pub marked_one : (says : EntryValue → Bool) (e : EntryValue) → marked says (e ∷ []) ≡ replicate (posted_len e) (says e)
unfolding marked
marked_one says e = append-nil (replicate (posted_len e) (says e))

-- entries of which the same is said
pub marked_like : (says tells : EntryValue → Bool) (es : List EntryValue) → ((place : ℕ) (e : EntryValue) → slice_get es place ≡ Some e → says e ≡ tells e) → marked says es ≡ marked tells es
unfolding marked
marked_like says tells [] same = refl
marked_like says tells (e ∷ es) same =
    ap (λ mark. replicate (posted_len e) mark ++ marked says es) (same zero e refl)
    ∙ ap (λ marks. replicate (posted_len e) (tells e) ++ marks) (marked_like says tells es (λ place x at. same (suc place) x at))

-- the marks before an entry, those of its own rows, and those behind them
pub marked_split : (says : EntryValue → Bool) (es : List EntryValue) (place : ℕ) (e : EntryValue) → slice_get es place ≡ Some e → marked says es ≡ marked says (take place es) ++ (replicate (posted_len e) (says e) ++ marked says (drop (suc place) es))
unfolding marked
marked_split says es place e at = ap (marked says) (split_at es place e at) ∙ marked_append says (take place es) (e ∷ drop (suc place) es)

-- the rows of a post have all the mark of its entry
pub marked_whole : (says : EntryValue → Bool) (es : List EntryValue) (origin : List ℕ) (seq : ℕ) (span : Span) (at : IsSpanOf es origin seq span) → take span.rows (drop span.start (marked says es)) ≡ replicate span.rows (says at.entry)
marked_whole says es origin seq span at =
    let before = marked says (take at.place es) in
    let own = replicate (posted_len at.entry) (says at.entry) in
    let after = marked says (drop (suc at.place) es) in
    let first : length before ≡ span.start = marked_count says (take at.place es) ∙ sym at.start in
    let long : length own ≡ span.rows = length-replicate (posted_len at.entry) (says at.entry) ∙ sym at.rows in
    ap (λ marks. take span.rows (drop span.start marks)) (marked_split says es at.place at.entry at.stands)
    ∙ middle_at before own after span.start span.rows first long
    ∙ ap (λ n. replicate n (says at.entry)) (sym at.rows)

pub marked_at : (says : EntryValue → Bool) (es : List EntryValue) (origin : List ℕ) (seq : ℕ) (span : Span) (at : IsSpanOf es origin seq span) → slice_get (marked says es) span.start ≡ Some (says at.entry)
marked_at says es origin seq span at =
    let before = marked says (take at.place es) in
    let own = replicate (posted_len at.entry) (says at.entry) in
    let after = marked says (drop (suc at.place) es) in
    let first : length before ≡ span.start = marked_count says (take at.place es) ∙ sym at.start in
    ap (λ marks. slice_get marks span.start) (marked_split says es at.place at.entry at.stands)
    ∙ get_behind before (own ++ after) span.start first
    ∙ first_of_many after (says at.entry) (posted_len at.entry) (let some = at.some in let rows = at.rows in omega arith)

-- ---- the rows that marks select

pub selected_is : (says : EntryValue → Bool) (es : List EntryValue) → selected (marked says es) (rows_posted es) ≡ flat_map (λ e. if says e then posted e.command else []) es
unfolding marked rows_posted selected
selected_is says [] = refl
selected_is says (e ∷ es) =
    selected_append (replicate (posted_len e) (says e)) (marked says es) (posted e.command) (rows_posted es) (length-replicate (posted_len e) (says e))
    ∙ ap (λ rows. rows ++ selected (marked says es) (rows_posted es)) (selected_same (says e) (posted e.command))
    ∙ ap (λ rows. (if says e then posted e.command else []) ++ rows) (selected_is says es)

unless_or_if : (mark : Bool) (rows : List Charge) → (if mark then [] else rows) ≡ (if not mark then rows else [])
unless_or_if true rows = refl
unless_or_if false rows = refl

counting_if : (all es : List EntryValue) → flat_map (counting all) es ≡ flat_map (λ e. if stays all e then posted e.command else []) es
counting_if all [] = refl
counting_if all (e ∷ es) =
    ap (λ rows. rows ++ flat_map (counting all) es) (unless_or_if (is_withdrawn all e.origin e.seq) (posted e.command))
    ∙ ap (λ rows. (if stays all e then posted e.command else []) ++ rows) (counting_if all es)

-- the rows that count are those that the marks select
pub rows_selected : (es : List EntryValue) → rows_of es ≡ selected (counts_of es) (rows_posted es)
unfolding rows_of counts_of
rows_selected es = counting_if es es ∙ sym (selected_is (stays es) es)
