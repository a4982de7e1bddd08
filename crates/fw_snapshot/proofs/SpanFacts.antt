-- Where the rows of each sender's entries stand, and which numbers of a sender are those of posts.
use Rattle.std.proofs.Common.{◌≡◌, ◌+◌, ◌-◌, ◌≤◌, ◌<◌, ◌&&◌, ◌||◌, ◌==◌, ℕ, zero, suc, List, [], ◌∷◌, ◌++◌, Option, Some, Bool, true, false, cond, if◌then◌else◌, length, filter, take, drop, get_or, slice_get, All, refl, sym, subst, ap, ◌∙◌, arith, length-append}
use Rattle.std.specs.List.{list_any}
use Rattle.std.specs.Str.{bytes_eq}
use Rattle.std.proofs.Math.Seq.{take-append_seam}
use Rattle.std.proofs.lemmas.List.{append-nil, append_assoc}
use Rattle.std.proofs.lemmas.List.Folds.{list_any_at}
use Rattle.std.proofs.lemmas.Option.{slice_get_within, get_or_from_slice_get, same_Some}
use Rattle.std.proofs.lemmas.Bool.Decides.{nat_tests}
use Rattle.std.proofs.lemmas.Slice.Eq.{bytes_eq-Decides}
use Rattle.fw_entry.specs.Entry.{CommandValue, EntryValue}
use Rattle.fw_entry.specs.Entry.CommandValue.{post, commit, set_policy, withdraw, add_purchase}
use Rattle.fw_entry.specs.Spelling.{IsEntry, IsCommand}
use Rattle.fw_snapshot.specs.History.{posted, rows_posted, entries_from}
use Rattle.fw_snapshot.specs.Judging.{IsLegal, is_post, has_post}
use Rattle.fw_snapshot.specs.Posts.{posted_len, spans_from, IsSpanOf}
use Rattle.fw_snapshot.specs.declared.posts.Span.{Span}
use Rattle.fw_snapshot.proofs.LegalFacts.{in_turn}

-- ---- the list of spans has one for each entry of the sender

one_each : {A B : Type 0} (b : Bool) (s : A) (ss : List A) (x : B) (xs : List B) → length ss ≡ length xs → length ((if b then s ∷ [] else []) ++ ss) ≡ length (cond b (x ∷ xs) xs)
one_each true s ss x xs h = ap suc h
one_each false s ss x xs h = h

-- a sender has as many spans as entries
pub spans_count : (start : ℕ) (origin : List ℕ) (es : List EntryValue) → length (spans_from start origin es) ≡ entries_from origin es
unfolding spans_from entries_from
spans_count start origin [] = refl
spans_count start origin (e ∷ es) =
    one_each (bytes_eq origin e.origin) (let span : Span = record { start = start; rows = posted_len e } in span) (spans_from (start + posted_len e) origin es) e (filter (λ e. bytes_eq origin e.origin) es)
    (spans_count (start + posted_len e) origin es)

-- the span of an entry that stands behind so many rows
abbrev pub span_at : ℕ → EntryValue → Span
span_at start e = record { start = start; rows = posted_len e }

-- one entry more is one span more of its sender, behind all rows
pub spans_more : (start : ℕ) (origin : List ℕ) (es : List EntryValue) (e : EntryValue)
    → spans_from start origin (es ++ e ∷ []) ≡ spans_from start origin es ++ (if bytes_eq origin e.origin then record { start = start + length (rows_posted es); rows = posted_len e } ∷ [] else [])
unfolding spans_from rows_posted
spans_more start origin [] e =
    let none : start ≡ start + 0 = omega arith in
    append-nil (if bytes_eq origin e.origin then span_at start e ∷ [] else [])
    ∙ ap (λ n. if bytes_eq origin e.origin then span_at n e ∷ [] else []) none
spans_more start origin (x ∷ es) e =
    let mine = if bytes_eq origin x.origin then span_at start x ∷ [] else [] in
    let rest = spans_from (start + posted_len x) origin es in
    let both = length-append (posted x.command) (rows_posted es) in
    let behind : start + posted_len x + length (rows_posted es) ≡ start + length (posted x.command ++ rows_posted es) = omega arith in
    ap (λ spans. mine ++ spans) (spans_more (start + posted_len x) origin es e ∙ ap (λ n. rest ++ (if bytes_eq origin e.origin then span_at n e ∷ [] else [])) behind)
    ∙ sym (append_assoc mine rest (if bytes_eq origin e.origin then span_at (start + length (posted x.command ++ rows_posted es)) e ∷ [] else []))

-- ---- the span of an entry, and the entry of a span

-- an entry's span stands where its sender's entries before it end
pub span_stands : (start : ℕ) (es : List EntryValue) (place : ℕ) (origin : List ℕ) (e : EntryValue) → slice_get es place ≡ Some e → origin ≡ e.origin
    → slice_get (spans_from start origin es) (entries_from origin (take place es)) ≡ Some (span_at (start + length (rows_posted (take place es))) e)
unfolding spans_from entries_from rows_posted
span_stands start [] place origin e h same = absurd (cc)
span_stands start (x ∷ es) zero origin e h same =
    let is : x ≡ e = same_Some x e h in
    let mine : bytes_eq origin x.origin ≡ true = (bytes_eq-Decides origin x.origin).1 (same ∙ ap (λ (e : EntryValue). e.origin) (sym is)) in
    let none : start ≡ start + 0 = omega arith in
    rw mine (ap (λ e. Some (span_at start e)) is ∙ ap (λ n. Some (span_at n e)) none)
span_stands start (x ∷ es) (suc place) origin e h same =
    let both = length-append (posted x.command) (rows_posted (take place es)) in
    let behind : start + posted_len x + length (rows_posted (take place es)) ≡ start + length (posted x.command ++ rows_posted (take place es)) = omega arith in
    by (bytes_eq origin x.origin) (span_at start x) (spans_from (start + posted_len x) origin es) (filter (λ e. bytes_eq origin e.origin) (take place es))
    (span_stands (start + posted_len x) es place origin e h same ∙ ap (λ n. Some (span_at n e)) behind)
  where
    by : {A : Type 0} (b : Bool) (s : A) (ss : List A) (xs : List EntryValue) {found : Option A} → slice_get ss (length xs) ≡ found → slice_get ((if b then s ∷ [] else []) ++ ss) (length (cond b (x ∷ xs) xs)) ≡ found
    by true s ss xs k = k
    by false s ss xs k = k

-- the entry of its sender whose span is the one at this place of the list
pub record IsEntryOfSpan (first : ℕ) (origin : List ℕ) (es : List EntryValue) (i : ℕ) (span : Span) : Type 0 where
  pub place : ℕ
  pub entry : EntryValue
  pub stands : slice_get es place ≡ Some entry
  pub same_origin : origin ≡ entry.origin
  pub before : entries_from origin (take place es) ≡ i
  pub start : span.start ≡ first + length (rows_posted (take place es))
  pub rows : span.rows ≡ posted_len entry

first_of_all : (start : ℕ) (origin : List ℕ) (x : EntryValue) (es : List EntryValue) (span : Span) → origin ≡ x.origin → span_at start x ≡ span → IsEntryOfSpan start origin (x ∷ es) 0 span
unfolding entries_from rows_posted
first_of_all start origin x es span same is = record {
  place = 0;
  entry = x;
  stands = refl;
  same_origin = same;
  before = refl;
  start = (let at = ap (λ (s : Span). s.start) is in omega arith);
  rows = ap (λ (s : Span). s.rows) (sym is);
}

one_later : (start : ℕ) (origin : List ℕ) (x : EntryValue) (es : List EntryValue) (i : ℕ) (span : Span) (b : Bool) → bytes_eq origin x.origin ≡ b → IsEntryOfSpan (start + posted_len x) origin es i span → IsEntryOfSpan start origin (x ∷ es) (if b then suc i else i) span
unfolding entries_from rows_posted
one_later start origin x es i span b mine found = record {
  place = suc found.place;
  entry = found.entry;
  stands = found.stands;
  same_origin = found.same_origin;
  before = ap (λ b. length (cond b (x ∷ filter (λ e. bytes_eq origin e.origin) (take found.place es)) (filter (λ e. bytes_eq origin e.origin) (take found.place es)))) mine ∙ by b;
  start =
      (let both = length-append (posted x.command) (rows_posted (take found.place es)) in
      let at = found.start in
      omega arith);
  rows = found.rows;
}
  where
    by : (b : Bool) → length (cond b (x ∷ filter (λ e. bytes_eq origin e.origin) (take found.place es)) (filter (λ e. bytes_eq origin e.origin) (take found.place es))) ≡ (if b then suc i else i)
    by true = ap suc found.before
    by false = found.before

-- each span is that of an entry
pub span_of_entry : (start : ℕ) (origin : List ℕ) (es : List EntryValue) (i : ℕ) (span : Span) → slice_get (spans_from start origin es) i ≡ Some span → IsEntryOfSpan start origin es i span
unfolding spans_from
span_of_entry start origin [] i span h = absurd (cc)
span_of_entry start origin (x ∷ es) i span h = by (bytes_eq origin x.origin) refl i (λ i. span_of_entry (start + posted_len x) origin es i span) h
  where
    by : (b : Bool) → bytes_eq origin x.origin ≡ b → (i : ℕ) → ((i : ℕ) → slice_get (spans_from (start + posted_len x) origin es) i ≡ Some span → IsEntryOfSpan (start + posted_len x) origin es i span)
        → slice_get ((if b then span_at start x ∷ [] else []) ++ spans_from (start + posted_len x) origin es) i ≡ Some span → IsEntryOfSpan start origin (x ∷ es) i span
    by false other i rest h = one_later start origin x es i span false other (rest i h)
    by true mine zero rest h = first_of_all start origin x es span ((bytes_eq-Decides origin x.origin).0 mine) (same_Some (span_at start x) span h)
    by true mine (suc i) rest h = one_later start origin x es i span true mine (rest i h)

-- the span at the place of a number is that of the entry with this number
pub is_span : (es : List EntryValue) → IsLegal es → (origin : List ℕ) (seq : ℕ) (span : Span) → 0 < seq → slice_get (spans_from 0 origin es) (seq - 1) ≡ Some span → 0 < span.rows → IsSpanOf es origin seq span
is_span es legal origin seq span counts h some =
    let found = span_of_entry 0 origin es (seq - 1) span h in
    let turn = in_turn es legal found.place found.entry found.stands in
    let same : entries_from origin (take found.place es) ≡ entries_from found.entry.origin (take found.place es) = ap (λ o. entries_from o (take found.place es)) found.same_origin in
    let before = found.before in
    let start = found.start in
    record {
      place = found.place;
      entry = found.entry;
      stands = found.stands;
      same_origin = found.same_origin;
      same_number = omega arith;
      start = omega arith;
      rows = found.rows;
      some = some;
    }

-- ---- posts of a sender and number

has_rows : (c : CommandValue) → 0 < length (posted c) → is_post c ≡ true
has_rows (post rows) h = refl
has_rows (commit c) h = absurd (omega arith)
has_rows (set_policy p) h = absurd (omega arith)
has_rows (withdraw n) h = absurd (omega arith)
has_rows (add_purchase a) h = absurd (omega arith)

post_has_rows : (c : CommandValue) → IsCommand c → is_post c ≡ true → 0 < length (posted c)
post_has_rows (post rows) is h = is.count.some
post_has_rows (commit c) is h = absurd (cc)
post_has_rows (set_policy p) is h = absurd (cc)
post_has_rows (withdraw n) is h = absurd (cc)
post_has_rows (add_purchase a) is h = absurd (cc)

-- whether an entry is the post of this sender and number
abbrev is_post_of : List ℕ → ℕ → EntryValue → Bool
is_post_of origin seq e = bytes_eq origin e.origin && (e.seq == seq && is_post e.command)

all_three : (a b c : Bool) → a ≡ true → b ≡ true → c ≡ true → (a && (b && c)) ≡ true
all_three true true c h k l = l
all_three true false c h k l = absurd (cc)
all_three false b c h k l = absurd (cc)

each_of_three : (a b c : Bool) → (a && (b && c)) ≡ true → (a ≡ true) × (b ≡ true) × (c ≡ true)
each_of_three true true c h = (refl, refl, h)
each_of_three true false c h = absurd (cc)
each_of_three false b c h = absurd (cc)

same_numbers : (a b : ℕ) → a ≡ b → (a == b) ≡ true
same_numbers a b h = grind (arith, nat_tests)

numbers_same : (a b : ℕ) → (a == b) ≡ true → a ≡ b
numbers_same a b h = grind (arith, nat_tests)

-- where a span with rows stands, there is the post
pub post_there : (es : List EntryValue) (origin : List ℕ) (seq : ℕ) (span : Span) → IsSpanOf es origin seq span → has_post es origin seq ≡ true
unfolding has_post
post_there es origin seq span is =
    let e = is.entry in
    let within = slice_get_within es is.place e is.stands in
    let read : get_or es is.place e ≡ e = get_or_from_slice_get es is.place e e is.stands in
    let some : 0 < length (posted e.command) = subst (λ n. 0 < n) is.rows is.some in
    let passes : is_post_of origin seq e ≡ true =
    all_three (bytes_eq origin e.origin) (e.seq == seq) (is_post e.command) ((bytes_eq-Decides origin e.origin).1 is.same_origin) (same_numbers e.seq seq is.same_number) (has_rows e.command some) in
    list_any_at (is_post_of origin seq) es is.place e within (ap (is_post_of origin seq) read ∙ passes)

-- the post of a sender and number
pub record HasPost (es : List EntryValue) (origin : List ℕ) (seq : ℕ) : Type 0 where
  pub place : ℕ
  pub entry : EntryValue
  pub stands : slice_get es place ≡ Some entry
  pub same_origin : origin ≡ entry.origin
  pub same_number : entry.seq ≡ seq
  pub posts : is_post entry.command ≡ true

first_passing : {A : Type 0} (test : A → Bool) (xs : List A) → list_any test xs ≡ true → (place : ℕ) × (x : A) × (slice_get xs place ≡ Some x) × (test x ≡ true)
first_passing test [] h = absurd (cc)
first_passing {A = A} test (x ∷ xs) h = by (test x) refl (first_passing test xs) h
  where
    by : (b : Bool) → test x ≡ b → (list_any test xs ≡ true → (place : ℕ) × (y : A) × (slice_get xs place ≡ Some y) × (test y ≡ true)) → (b || list_any test xs) ≡ true
        → (place : ℕ) × (y : A) × (slice_get (x ∷ xs) place ≡ Some y) × (test y ≡ true)
    by true is rest h = (0, x, refl, is)
    by false is rest h = let found = rest h in (suc found.0, found.1, found.2, found.3)

pub post_of : (es : List EntryValue) (origin : List ℕ) (seq : ℕ) → has_post es origin seq ≡ true → HasPost es origin seq
unfolding has_post
post_of es origin seq h =
    let found = first_passing (is_post_of origin seq) es h in
    let e = found.1 in
    let parts = each_of_three (bytes_eq origin e.origin) (e.seq == seq) (is_post e.command) found.3 in
    record {
      place = found.0;
      entry = e;
      stands = found.2;
      same_origin = (bytes_eq-Decides origin e.origin).0 parts.0;
      same_number = numbers_same e.seq seq parts.1;
      posts = parts.2;
    }

-- the number of an entry says how many of its sender's entries stand before it
number_of : (es : List EntryValue) → IsLegal es → (origin : List ℕ) (seq : ℕ) → (is : HasPost es origin seq) → entries_from origin (take is.place es) + 1 ≡ seq
number_of es legal origin seq is =
    let turn = in_turn es legal is.place is.entry is.stands in
    let same : entries_from origin (take is.place es) ≡ entries_from is.entry.origin (take is.place es) = ap (λ o. entries_from o (take is.place es)) is.same_origin in
    let number = is.same_number in
    omega arith

-- the span of a post stands at the place of its number
span_of_post : (es : List EntryValue) → IsLegal es → (origin : List ℕ) (seq : ℕ) → (is : HasPost es origin seq) → slice_get (spans_from 0 origin es) (seq - 1) ≡ Some (span_at (length (rows_posted (take is.place es))) is.entry)
span_of_post es legal origin seq is =
    let number = number_of es legal origin seq is in
    let at : seq - 1 ≡ entries_from origin (take is.place es) = omega arith in
    let none : 0 + length (rows_posted (take is.place es)) ≡ length (rows_posted (take is.place es)) = omega arith in
    ap (slice_get (spans_from 0 origin es)) at
    ∙ span_stands 0 es is.place origin is.entry is.stands is.same_origin
    ∙ ap (λ n. Some (span_at n is.entry)) none

some_rows : (es : List EntryValue) → All IsEntry es → (origin : List ℕ) (seq : ℕ) → (is : HasPost es origin seq) → 0 < posted_len is.entry
some_rows es each origin seq is =
    let within = slice_get_within es is.place is.entry is.stands in
    let read : get_or es is.place is.entry ≡ is.entry = get_or_from_slice_get es is.place is.entry is.entry is.stands in
    let entry : IsEntry is.entry = subst IsEntry read (each is.place is.entry within) in
    post_has_rows is.entry.command entry.command is.posts

-- where there is the post, its span stands at the place of its number
pub span_given : (es : List EntryValue) → IsLegal es → All IsEntry es → (origin : List ℕ) (seq : ℕ) → has_post es origin seq ≡ true
    → (span : Span) × IsSpanOf es origin seq span × (slice_get (spans_from 0 origin es) (seq - 1) ≡ Some span)
span_given es legal each origin seq h =
    let is = post_of es origin seq h in
    let some = some_rows es each origin seq is in
    let start = length (rows_posted (take is.place es)) in (
      span_at start is.entry,
      record { place = is.place; entry = is.entry; stands = is.stands; same_origin = is.same_origin; same_number = is.same_number; start = refl; rows = refl; some = some },
      span_of_post es legal origin seq is,
    )

-- ---- where no span is found, there is no such post

none_of : (b : Bool) → (b ≡ true → ⊥) → b ≡ false
none_of true h = absurd (h refl)
none_of false h = refl

-- numbers count from 1
pub no_post_zero : (es : List EntryValue) → IsLegal es → (origin : List ℕ) (seq : ℕ) → seq ≡ 0 → has_post es origin seq ≡ false
no_post_zero es legal origin seq zero_is = none_of (has_post es origin seq) (λ h.
    let number = number_of es legal origin seq (post_of es origin seq h) in
    omega arith)

-- no number is above that of the sender's last entry
pub no_post_beyond : (es : List EntryValue) → IsLegal es → (origin : List ℕ) (seq : ℕ) → entries_from origin es < seq → has_post es origin seq ≡ false
no_post_beyond es legal origin seq beyond = none_of (has_post es origin seq) (λ h.
    let is = post_of es origin seq h in
    let number = number_of es legal origin seq is in
    let within = slice_get_within (spans_from 0 origin es) (seq - 1) _ (span_of_post es legal origin seq is) in
    let count = spans_count 0 origin es in
    omega arith)

-- an entry without rows is no post
pub no_post_empty : (es : List EntryValue) → IsLegal es → All IsEntry es → (origin : List ℕ) (seq : ℕ) (span : Span) → slice_get (spans_from 0 origin es) (seq - 1) ≡ Some span → span.rows ≡ 0 → has_post es origin seq ≡ false
no_post_empty es legal each origin seq span there none = none_of (has_post es origin seq) (λ h.
    let is = post_of es origin seq h in
    let some = some_rows es each origin seq is in
    let own = span_of_post es legal origin seq is in
    let same : span_at (length (rows_posted (take is.place es))) is.entry ≡ span = same_Some _ _ (sym own ∙ there) in
    let rows : posted_len is.entry ≡ span.rows = ap (λ (s : Span). s.rows) same in
    omega arith)

-- ---- the rows of a span

drop_past : {A : Type 0} (xs ys zs : List A) → drop (length (xs ++ ys)) (xs ++ zs) ≡ drop (length ys) zs
drop_past [] ys zs = refl
drop_past (x ∷ xs) ys zs = drop_past xs ys zs

rows_stand : (es : List EntryValue) (place : ℕ) (e : EntryValue) → slice_get es place ≡ Some e → take (posted_len e) (drop (length (rows_posted (take place es))) (rows_posted es)) ≡ posted e.command
unfolding rows_posted
rows_stand [] place e h = absurd (cc)
rows_stand (x ∷ es) zero e h =
    let is : x ≡ e = same_Some x e h in
    ap (λ (e : EntryValue). take (posted_len e) (posted x.command ++ rows_posted es)) (sym is)
    ∙ take-append_seam (posted x.command) (rows_posted es)
    ∙ ap (λ (e : EntryValue). posted e.command) is
rows_stand (x ∷ es) (suc place) e h =
    ap (take (posted_len e)) (drop_past (posted x.command) (rows_posted (take place es)) (rows_posted es)) ∙ rows_stand es place e h

rows_end : (es : List EntryValue) (place : ℕ) (e : EntryValue) → slice_get es place ≡ Some e → length (rows_posted (take place es)) + posted_len e ≤ length (rows_posted es)
unfolding rows_posted
rows_end [] place e h = absurd (cc)
rows_end (x ∷ es) zero e h =
    let is : posted_len x ≡ posted_len e = ap posted_len (same_Some x e h) in
    let all = length-append (posted x.command) (rows_posted es) in
    omega arith
rows_end (x ∷ es) (suc place) e h =
    let before = length-append (posted x.command) (rows_posted (take place es)) in
    let all = length-append (posted x.command) (rows_posted es) in
    let rest = rows_end es place e h in
    omega arith

-- the rows that stand there are those that the entry posts
pub span_rows : (es : List EntryValue) (origin : List ℕ) (seq : ℕ) (span : Span) → (is : IsSpanOf es origin seq span) → take span.rows (drop span.start (rows_posted es)) ≡ posted is.entry.command
span_rows es origin seq span is =
    ap (λ n. take n (drop span.start (rows_posted es))) is.rows
    ∙ ap (λ n. take (posted_len is.entry) (drop n (rows_posted es))) is.start
    ∙ rows_stand es is.place is.entry is.stands

-- a span ends within the rows
pub span_within : (es : List EntryValue) (origin : List ℕ) (seq : ℕ) (span : Span) → IsSpanOf es origin seq span → span.start + span.rows ≤ length (rows_posted es)
span_within es origin seq span is =
    let end = rows_end es is.place is.entry is.stands in
    let start = is.start in
    let rows = is.rows in
    omega arith
