-- The posts of an origin, entry by entry, and the rows that they have.
use Rattle.std.proofs.Common.{◌≡◌, ◌∙◌, ◌+◌, ◌≤◌, ◌<◌, ◌++◌, ◌∷◌, [], ℕ, zero, suc, List, Bool, true, false, length, length-append, map, take, drop, refl, sym, ap, subst, append_assoc, arith}
use Rattle.std.specs.Prelude.{◌&&◌, ◌||◌, All, Some, if◌then◌else◌, nat_lt, not, slice_get}
use Rattle.std.specs.List.{flat_map}
use Rattle.std.specs.Str.{bytes_eq}
use Rattle.std.proofs.lemmas.Bool.Decides.{nat_tests}
use Rattle.std.proofs.lemmas.Grind.{flat_map-append}
use Rattle.std.proofs.lemmas.List.{append-nil, nil_from_length}
use Rattle.std.proofs.lemmas.List.Elements.{All-append, All-cons, All-nil}
use Rattle.std.proofs.lemmas.Slice.Eq.{bytes_eq-Decides}
use Rattle.std.proofs.Math.Seq.{drop-append_seam, take-append_seam}
use Rattle.fw_charge.specs.Charge.{Charge}
use Rattle.fw_entry.specs.Entry.{CommandValue, EntryValue}
use Rattle.fw_entry.specs.Entry.CommandValue.{post, commit, set_policy, withdraw, add_purchase}
use Rattle.fw_posted.proofs.MarkFacts.{take_next}
use Rattle.fw_snapshot.specs.Heads.{HeadValue, head_of}
use Rattle.fw_snapshot.specs.History.{counting, is_withdrawn, posted, rows_posted}
use Rattle.fw_snapshot.specs.Posts.{posted_len}
use Rattle.fw_snapshot.proofs.EntryFacts.{rows_posted_more}
use Rattle.fw_replace.specs.Posts.{IsOwnPost, is_own_post, own_rows, post_in, posts_from, posts_of, rows_at}
use Rattle.fw_replace.specs.declared.posts.Post.{Post}

pub or_false : (b : Bool) → (b || false) ≡ b
or_false true = refl
or_false false = refl

-- ---- the entry of a head

-- the entry at a place, whose head this is
pub record IsAt (entries : List EntryValue) (place : ℕ) (h : HeadValue) : Type 0 where
  pub entry : EntryValue
  pub stands : slice_get entries place ≡ Some entry
  pub head : head_of entry ≡ h

pub entry_at : (entries : List EntryValue) (place : ℕ) (h : HeadValue) → slice_get (map head_of entries) place ≡ Some h → IsAt entries place h
entry_at [] place h there = absurd (cc)
entry_at (e ∷ entries) zero h there = record { entry = e; stands = refl; head = cc }
entry_at (e ∷ entries) (suc place) h there =
    let later : slice_get (map head_of entries) place ≡ Some h = cc in
    let found = entry_at entries place h later in
    record { entry = found.entry; stands = found.stands; head = found.head }

-- ---- one entry more

pub posts_more : (entries : List EntryValue) (origin : List ℕ) (start : ℕ) (es : List EntryValue) (e : EntryValue)
    → posts_from entries origin start (es ++ e ∷ []) ≡ posts_from entries origin start es ++ post_in entries origin (start + length (rows_posted es)) e
unfolding posts_from rows_posted
posts_more entries origin start [] e =
    let none : start ≡ start + 0 = omega arith in
    append-nil (post_in entries origin start e) ∙ ap (λ n. post_in entries origin n e) none
posts_more entries origin start (x ∷ es) e =
    let mine = post_in entries origin start x in
    let rest = posts_from entries origin (start + posted_len x) es in
    let both = length-append (posted x.command) (rows_posted es) in
    let behind : start + posted_len x + length (rows_posted es) ≡ start + length (posted x.command ++ rows_posted es) = omega arith in
    ap (λ posts. mine ++ posts) (posts_more entries origin (start + posted_len x) es e ∙ ap (λ n. rest ++ post_in entries origin n e) behind)
    ∙ sym (append_assoc mine rest (post_in entries origin (start + length (posted x.command ++ rows_posted es)) e))

-- the posts up to an entry, and its own behind them
pub next_post : (entries : List EntryValue) (origin : List ℕ) (place : ℕ) (e : EntryValue) (start : ℕ) → slice_get entries place ≡ Some e → start ≡ length (rows_posted (take place entries))
    → posts_from entries origin 0 (take (place + 1) entries) ≡ posts_from entries origin 0 (take place entries) ++ post_in entries origin start e
next_post entries origin place e start there is =
    let before : 0 + length (rows_posted (take place entries)) ≡ start = omega (arith, is) in
    ap (posts_from entries origin 0) (take_next entries place e there)
    ∙ posts_more entries origin 0 (take place entries) e
    ∙ ap (λ n. posts_from entries origin 0 (take place entries) ++ post_in entries origin n e) before

pub next_start : (entries : List EntryValue) (place : ℕ) (e : EntryValue) → slice_get entries place ≡ Some e
    → length (rows_posted (take (place + 1) entries)) ≡ length (rows_posted (take place entries)) + posted_len e
next_start entries place e there =
    ap (λ es. length (rows_posted es)) (take_next entries place e there)
    ∙ ap length (rows_posted_more (take place entries) e)
    ∙ length-append (rows_posted (take place entries)) (posted e.command)

rows_split : (front rest : List EntryValue) → rows_posted (front ++ rest) ≡ rows_posted front ++ rows_posted rest
unfolding rows_posted
rows_split front rest = flat_map-append (λ e. posted e.command) front rest

-- the rows up to an entry, and those of the entry, are no more than all
pub start_within : (entries : List EntryValue) (place : ℕ) (e : EntryValue) → slice_get entries place ≡ Some e
    → length (rows_posted (take place entries)) + posted_len e ≤ length (rows_posted entries)
unfolding rows_posted
start_within [] place e there = absurd (cc)
start_within (x ∷ entries) zero e there =
    let same : x ≡ e = cc in
    let long : posted_len x ≡ posted_len e = ap posted_len same in
    let all = length-append (posted x.command) (rows_posted entries) in
    omega arith
start_within (x ∷ entries) (suc place) e there =
    let later : slice_get entries place ≡ Some e = cc in
    let before = length-append (posted x.command) (rows_posted (take place entries)) in
    let all = length-append (posted x.command) (rows_posted entries) in
    let rest = start_within entries place e later in
    omega arith

-- ---- whether an entry is a post that counts

has_some : (n : ℕ) → 0 < n → nat_lt 0 n ≡ true
has_some n some = grind (arith, nat_tests)

has_none : (n : ℕ) → n ≤ 0 → nat_lt 0 n ≡ false
has_none n none = grind (arith, nat_tests)

and_false : (b : Bool) → (b && false) ≡ false
and_false true = refl
and_false false = refl

-- it is one of this number and with so many rows
pub post_is : (entries : List EntryValue) (origin : List ℕ) (start : ℕ) (e : EntryValue) (number rows : ℕ) → number ≡ e.seq → rows ≡ posted_len e
    → bytes_eq e.origin origin ≡ true → 0 < rows → is_withdrawn entries origin e.seq ≡ false → post_in entries origin start e ≡ record { number = number; start = start; rows = rows } ∷ []
post_is entries origin start e number rows numbered long mine some stays =
    let rows_there : nat_lt 0 (posted_len e) ≡ true = has_some (posted_len e) (omega (arith, long, some)) in
    let own : is_own_post entries origin e ≡ true = λ j. mine j && (rows_there j && not (stays j)) in
    ap (λ b. if b then (let p : Post = record { number = e.seq; start = start; rows = posted_len e } in p) ∷ [] else []) own
    ∙ (λ j. (let p : Post = record { number = sym numbered j; start = start; rows = sym long j } in p) ∷ [])

no_post : (entries : List EntryValue) (origin : List ℕ) (start : ℕ) (e : EntryValue) → is_own_post entries origin e ≡ false → post_in entries origin start e ≡ []
no_post entries origin start e is =
    ap (λ b. if b then (let p : Post = record { number = e.seq; start = start; rows = posted_len e } in p) ∷ [] else []) is

-- it is another origin's
pub of_others : (entries : List EntryValue) (origin : List ℕ) (start : ℕ) (e : EntryValue) → bytes_eq e.origin origin ≡ false → post_in entries origin start e ≡ []
of_others entries origin start e other =
    no_post entries origin start e (ap (λ a. a && (nat_lt 0 (posted_len e) && not (is_withdrawn entries origin e.seq))) other)

-- it has no rows
pub without_rows : (entries : List EntryValue) (origin : List ℕ) (start : ℕ) (e : EntryValue) (rows : ℕ) → rows ≡ posted_len e → rows ≤ 0 → post_in entries origin start e ≡ []
without_rows entries origin start e rows long none =
    let no_rows_there : nat_lt 0 (posted_len e) ≡ false = has_none (posted_len e) (omega (arith, long, none)) in
    no_post entries origin start e (ap (λ b. bytes_eq e.origin origin && (b && not (is_withdrawn entries origin e.seq))) no_rows_there ∙ and_false (bytes_eq e.origin origin))

-- it is withdrawn
pub gone : (entries : List EntryValue) (origin : List ℕ) (start : ℕ) (e : EntryValue) → is_withdrawn entries origin e.seq ≡ true → post_in entries origin start e ≡ []
gone entries origin start e withdrawn =
    no_post entries origin start e
    (ap (λ w. bytes_eq e.origin origin && (nat_lt 0 (posted_len e) && not w)) withdrawn
    ∙ ap (λ b. bytes_eq e.origin origin && b) (and_false (nat_lt 0 (posted_len e)))
    ∙ and_false (bytes_eq e.origin origin))

-- one entry more, whose posts these are
pub next_posts : (entries : List EntryValue) (origin : List ℕ) (place : ℕ) (e : EntryValue) (start : ℕ) (posts before own : List Post) → slice_get entries place ≡ Some e → start ≡ length (rows_posted (take place entries))
    → before ≡ posts_from entries origin 0 (take place entries) → post_in entries origin start e ≡ own → posts ≡ before ++ own → posts ≡ posts_from entries origin 0 (take (place + 1) entries)
next_posts entries origin place e start posts before own there begins so_far is more =
    more
    ∙ ap (λ l. l ++ own) so_far
    ∙ ap (λ l. posts_from entries origin 0 (take place entries) ++ l) (sym is)
    ∙ sym (next_post entries origin place e start there begins)

-- ---- what an own post is

pub record OwnParts (entries : List EntryValue) (origin : List ℕ) (e : EntryValue) : Type 0 where
  pub same_origin : e.origin ≡ origin
  pub some : 0 < posted_len e
  pub counts : is_withdrawn entries origin e.seq ≡ false

parts_true : (a b c : Bool) → (a && (b && not c)) ≡ true → (a ≡ true) × (b ≡ true) × (c ≡ false)
parts_true true true true is = absurd (cc)
parts_true true true false is = (refl, refl, refl)
parts_true true false c is = absurd (cc)
parts_true false b c is = absurd (cc)

some_rows : (n : ℕ) → nat_lt 0 n ≡ true → 0 < n
some_rows n is = grind (arith, nat_tests)

no_rows : (n : ℕ) → nat_lt 0 n ≡ false → n ≡ 0
no_rows n is = grind (arith, nat_tests)

pub own_parts : (entries : List EntryValue) (origin : List ℕ) (e : EntryValue) → is_own_post entries origin e ≡ true → OwnParts entries origin e
own_parts entries origin e is =
    let parts = parts_true (bytes_eq e.origin origin) (nat_lt 0 (posted_len e)) (is_withdrawn entries origin e.seq) is in
    record {
      same_origin = (bytes_eq-Decides e.origin origin).0 parts.0;
      some = some_rows (posted_len e) parts.1;
      counts = parts.2;
    }

posts_rows : (c : CommandValue) → 0 < length (posted c) → c ≡ post (posted c)
posts_rows (post rows) some = refl
posts_rows (commit c) some = absurd (omega arith)
posts_rows (set_policy p) some = absurd (omega arith)
posts_rows (withdraw n) some = absurd (omega arith)
posts_rows (add_purchase a) some = absurd (omega arith)

-- ---- the rows of a post

pub seam : {A : Type 0} (front : List A) (x : A) (rest : List A) → slice_get (front ++ x ∷ rest) (length front) ≡ Some x
seam [] x rest = refl
seam (y ∷ front) x rest = seam front x rest

-- the post of an entry that stands behind others
abbrev post_behind : List EntryValue → EntryValue → Post
post_behind front e = record { number = e.seq; start = length (rows_posted front); rows = posted_len e }

all_rows : (front : List EntryValue) (e : EntryValue) (rest : List EntryValue) → rows_posted (front ++ e ∷ rest) ≡ rows_posted front ++ (posted e.command ++ rows_posted rest)
unfolding rows_posted
all_rows front e rest = rows_split front (e ∷ rest)

own_rows_stand : (front : List EntryValue) (e : EntryValue) (rest : List EntryValue) → rows_at (rows_posted (front ++ e ∷ rest)) (post_behind front e) ≡ posted e.command
own_rows_stand front e rest =
    let behind : drop (length (rows_posted front)) (rows_posted (front ++ e ∷ rest)) ≡ posted e.command ++ rows_posted rest =
    ap (drop (length (rows_posted front))) (all_rows front e rest) ∙ drop-append_seam (rows_posted front) (posted e.command ++ rows_posted rest) in
    ap (take (posted_len e)) behind ∙ take-append_seam (posted e.command) (rows_posted rest)

own_within : (front : List EntryValue) (e : EntryValue) (rest : List EntryValue) → length (rows_posted front) + posted_len e ≤ length (rows_posted (front ++ e ∷ rest))
own_within front e rest =
    omega (
      arith,
      ap length (all_rows front e rest),
      length-append (rows_posted front) (posted e.command ++ rows_posted rest),
      length-append (posted e.command) (rows_posted rest),
    )

own_post : (origin : List ℕ) (front : List EntryValue) (e : EntryValue) (rest : List EntryValue) → OwnParts (front ++ e ∷ rest) origin e → IsOwnPost (front ++ e ∷ rest) origin (post_behind front e)
own_post origin front e rest parts = record {
  place = length front;
  entry = e;
  stands = seam front e rest;
  same_origin = parts.same_origin;
  same_number = refl;
  posts = posts_rows e.command parts.some ∙ ap post (sym (own_rows_stand front e rest));
  some = parts.some;
  within = own_within front e rest;
  counts = parts.counts;
}

-- an entry goes from the front of the rest to the end of those before it
pub moved : (front : List EntryValue) (e : EntryValue) (rest : List EntryValue) → (front ++ e ∷ []) ++ rest ≡ front ++ e ∷ rest
moved front e rest = append_assoc front (e ∷ []) rest

start_moved : (front : List EntryValue) (e : EntryValue) → length (rows_posted (front ++ e ∷ [])) ≡ length (rows_posted front) + posted_len e
start_moved front e = ap length (rows_posted_more front e) ∙ length-append (rows_posted front) (posted e.command)

own_first : (origin : List ℕ) (front : List EntryValue) (e : EntryValue) (rest : List EntryValue) → (b : Bool) → is_own_post (front ++ e ∷ rest) origin e ≡ b
    → All (IsOwnPost (front ++ e ∷ rest) origin) (if b then post_behind front e ∷ [] else [])
own_first origin front e rest true is =
    let own = own_post origin front e rest (own_parts (front ++ e ∷ rest) origin e is) in
    All-cons (IsOwnPost (front ++ e ∷ rest) origin) (post_behind front e) [] own (All-nil (IsOwnPost (front ++ e ∷ rest) origin))
own_first origin front e rest false is = All-nil (IsOwnPost (front ++ e ∷ rest) origin)

own_behind : (entries : List EntryValue) (origin : List ℕ) (front rest : List EntryValue) → entries ≡ front ++ rest
    → All (IsOwnPost entries origin) (posts_from entries origin (length (rows_posted front)) rest)
unfolding posts_from
own_behind entries origin front [] is = All-nil (IsOwnPost entries origin)
own_behind entries origin front (e ∷ rest) is =
    let n = length (rows_posted front) in
    let first : All (IsOwnPost entries origin) (post_in entries origin n e) =
    subst (λ es. All (IsOwnPost es origin) (post_in es origin n e)) (sym is) (own_first origin front e rest (is_own_post (front ++ e ∷ rest) origin e) refl) in
    let later : All (IsOwnPost entries origin) (posts_from entries origin (n + posted_len e) rest) =
    subst (λ m. All (IsOwnPost entries origin) (posts_from entries origin m rest)) (start_moved front e)
    (own_behind entries origin (front ++ e ∷ []) rest (is ∙ sym (moved front e rest))) in
    All-append (IsOwnPost entries origin) (post_in entries origin n e) (posts_from entries origin (n + posted_len e) rest) first later

-- each of the posts is one of the origin, counts, and has its rows where it says
pub own_posts : (entries : List EntryValue) (origin : List ℕ) → All (IsOwnPost entries origin) (posts_of origin entries)
unfolding rows_posted
own_posts entries origin = own_behind entries origin [] entries refl

-- ---- the rows of all posts

-- the rows of an entry that count for the origin, where these are all entries
abbrev pub own : List EntryValue → List ℕ → EntryValue → List Charge
own entries origin e = if bytes_eq e.origin origin then counting entries e else []

-- of the entries, those of these numbers are withdrawn later, and no others
abbrev pub WithdrawsNamed : List EntryValue → List EntryValue → List ℕ → (ℕ → Bool) → Type 0
WithdrawsNamed all entries origin named = (n : ℕ) → is_withdrawn all origin n ≡ (is_withdrawn entries origin n || named n)

-- what is left of the rows of a post
abbrev pub rows_left : List Charge → (ℕ → Bool) → Post → List Charge
rows_left rows named p = if named p.number then [] else rows_at rows p

pub nothing_own : (all : List EntryValue) (origin : List ℕ) (e : EntryValue) → posted e.command ≡ [] → own all origin e ≡ []
nothing_own all origin e none = by (bytes_eq e.origin origin) (is_withdrawn all e.origin e.seq)
  where
    by : (a b : Bool) → (if a then (if b then [] else posted e.command) else []) ≡ []
    by true true = refl
    by true false = none
    by false b = refl

pub own_is : (all : List EntryValue) (origin : List ℕ) (e : EntryValue) (b : Bool) → e.origin ≡ origin → is_withdrawn all origin e.seq ≡ b → own all origin e ≡ (if b then [] else posted e.command)
own_is all origin e b same withdrawn =
    let mine : bytes_eq e.origin origin ≡ true = (bytes_eq-Decides e.origin origin).1 same in
    let is : is_withdrawn all e.origin e.seq ≡ b = ap (λ o. is_withdrawn all o e.seq) same ∙ withdrawn in
    ap (λ m. if m then counting all e else []) mine ∙ ap (λ w. if w then [] else posted e.command) is

not_own : (all entries : List EntryValue) (origin : List ℕ) (named : ℕ → Bool) (e : EntryValue) → WithdrawsNamed all entries origin named
    → (a b c : Bool) → bytes_eq e.origin origin ≡ a → nat_lt 0 (posted_len e) ≡ b → is_withdrawn entries origin e.seq ≡ c → (a && (b && not c)) ≡ false → own all origin e ≡ []
not_own all entries origin named e later false b c mine some withdrawn is = ap (λ m. if m then counting all e else []) mine
not_own all entries origin named e later true false c mine some withdrawn is =
    nothing_own all origin e (nil_from_length (posted e.command) (no_rows (posted_len e) some))
not_own all entries origin named e later true true true mine some withdrawn is =
    own_is all origin e true ((bytes_eq-Decides e.origin origin).0 mine) (later e.seq ∙ ap (λ w. w || named e.seq) withdrawn)
not_own all entries origin named e later true true false mine some withdrawn is = absurd (cc)

left_first : (all : List EntryValue) (origin : List ℕ) (named : ℕ → Bool) (front : List EntryValue) (e : EntryValue) (rest : List EntryValue) → WithdrawsNamed all (front ++ e ∷ rest) origin named
    → (b : Bool) → is_own_post (front ++ e ∷ rest) origin e ≡ b
    → flat_map (rows_left (rows_posted (front ++ e ∷ rest)) named) (if b then post_behind front e ∷ [] else []) ≡ own all origin e
left_first all origin named front e rest later true is =
    let parts = own_parts (front ++ e ∷ rest) origin e is in
    let goes : is_withdrawn all origin e.seq ≡ named e.seq = later e.seq ∙ ap (λ w. w || named e.seq) parts.counts in
    append-nil (rows_left (rows_posted (front ++ e ∷ rest)) named (post_behind front e))
    ∙ ap (λ rows. if named e.seq then [] else rows) (own_rows_stand front e rest)
    ∙ sym (own_is all origin e (named e.seq) parts.same_origin goes)
left_first all origin named front e rest later false is =
    sym (not_own all (front ++ e ∷ rest) origin named e later (bytes_eq e.origin origin) (nat_lt 0 (posted_len e)) (is_withdrawn (front ++ e ∷ rest) origin e.seq) refl refl refl is)

left_behind : (all entries : List EntryValue) (origin : List ℕ) (named : ℕ → Bool) → WithdrawsNamed all entries origin named → (front rest : List EntryValue) → entries ≡ front ++ rest
    → flat_map (rows_left (rows_posted entries) named) (posts_from entries origin (length (rows_posted front)) rest) ≡ flat_map (own all origin) rest
unfolding posts_from
left_behind all entries origin named later front [] is = refl
left_behind all entries origin named later front (e ∷ rest) is =
    let n = length (rows_posted front) in
    let brings = rows_left (rows_posted entries) named in
    let first : flat_map brings (post_in entries origin n e) ≡ own all origin e =
    left_at (front ++ e ∷ rest) is (left_first all origin named front e rest (subst (λ es. WithdrawsNamed all es origin named) is later) (is_own_post (front ++ e ∷ rest) origin e) refl) in
    let others : flat_map brings (posts_from entries origin (n + posted_len e) rest) ≡ flat_map (own all origin) rest =
    subst (λ m. flat_map brings (posts_from entries origin m rest) ≡ flat_map (own all origin) rest) (start_moved front e)
    (left_behind all entries origin named later (front ++ e ∷ []) rest (is ∙ sym (moved front e rest))) in
    flat_map-append brings (post_in entries origin n e) (posts_from entries origin (n + posted_len e) rest)
    ∙ ap (λ l. l ++ flat_map brings (posts_from entries origin (n + posted_len e) rest)) first
    ∙ ap (λ l. own all origin e ++ l) others
  where
    left_at : (es : List EntryValue) → entries ≡ es
        → flat_map (rows_left (rows_posted es) named) (post_in es origin (length (rows_posted front)) e) ≡ own all origin e
        → flat_map (rows_left (rows_posted entries) named) (post_in entries origin (length (rows_posted front)) e) ≡ own all origin e
    left_at es same holds =
        subst (λ es. flat_map (rows_left (rows_posted es) named) (post_in es origin (length (rows_posted front)) e) ≡ own all origin e) (sym same) holds

-- what is left of the rows of all posts are the rows of the entries that count later
pub rows_left_are : (all entries : List EntryValue) (origin : List ℕ) (named : ℕ → Bool) → WithdrawsNamed all entries origin named
    → flat_map (rows_left (rows_posted entries) named) (posts_of origin entries) ≡ flat_map (own all origin) entries
unfolding rows_posted
rows_left_are all entries origin named later = left_behind all entries origin named later [] entries refl

-- the posts of an origin have the rows of the origin that count
pub posts_rows_are : (origin : List ℕ) (entries : List EntryValue) → flat_map (rows_at (rows_posted entries)) (posts_of origin entries) ≡ own_rows origin entries
unfolding own_rows
posts_rows_are origin entries = rows_left_are entries entries origin (λ n. false) (λ n. sym (or_false (is_withdrawn entries origin n)))
