-- What a withdrawal takes away, and what stays.
use Rattle.std.proofs.Common.{◌≡◌, ◌+◌, ◌≤◌, ◌<◌, ◌==◌, ◌||◌, ◌&&◌, ◌⊎◌, not, ℕ, zero, suc, List, [], ◌∷◌, ◌++◌, Some, None, Bool, true, false, cond, if◌then◌else◌, length, filter, take, drop, replicate, slice_get, nat_lt, All, refl, sym, ap, subst, ◌∙◌, inl, inr, arith, length-append}
use Rattle.std.specs.List.{list_any, flat_map}
use Rattle.std.specs.Str.{bytes_eq}
use Rattle.std.proofs.Math.Bool.{or-false}
use Rattle.std.proofs.lemmas.Bool.{cases_Bool, or_cases, and_parts, eqb-true, eq-eqb, lt-ltb}
use Rattle.std.proofs.lemmas.Bool.Decides.{nat_tests}
use Rattle.std.proofs.lemmas.List.{append-nil, length-replicate, take_at, drop_at}
use Rattle.std.proofs.lemmas.List.Concat.{flat_map-append}
use Rattle.std.proofs.lemmas.List.Elements.{All-nil, All-append, All-same, All-take, All-drop, filter-append}
use Rattle.std.proofs.lemmas.List.Folds.{list_any-append}
use Rattle.std.proofs.lemmas.Slice.Eq.{bytes_eq-Decides}
use Rattle.fw_charge.specs.Charge.{Charge}
use Rattle.fw_entry.specs.Entry.{CommandValue, EntryValue}
use Rattle.fw_entry.specs.Entry.CommandValue.{post, commit, set_policy, withdraw, add_purchase}
use Rattle.fw_snapshot.specs.History.{posted, withdraws, is_withdrawn, rows_posted, rows_of, counting, entries_from}
use Rattle.fw_snapshot.specs.Judging.{judged, IsLegal, command_conflict, withdrawal_conflict, has_post, is_post, has_id, carries}
use Rattle.fw_snapshot.specs.Posts.{posted_len, marked, stays, counts_of, IsSpanOf}
use Rattle.fw_posted.specs.Marks.{without}
use Rattle.fw_snapshot.specs.Uses.{posts_with, withdrawn_with}
use Rattle.fw_snapshot.specs.declared.posts.Span.{Span}
use Rattle.fw_snapshot.specs.declared.verdict.Conflict.TheVariants as conflict
use Rattle.fw_snapshot.specs.declared.verdict.Verdict.TheVariants as verdict
use Rattle.fw_snapshot.proofs.EntryFacts.{entries_from_more, entries_from_grows}
use Rattle.fw_snapshot.proofs.LegalFacts.{accepted_number, accepted_command, legal_kept, once}
use Rattle.fw_snapshot.proofs.MarkFacts.{marked_append, marked_count, marked_one, marked_like, marked_split, marked_whole, marked_at, without_middle, split_at}

same_text : (origin : List ℕ) → bytes_eq origin origin ≡ true
same_text origin = (bytes_eq-Decides origin origin).1 refl

-- ---- one entry more

pub withdrawn_more : (es : List EntryValue) (e : EntryValue) (origin : List ℕ) (seq : ℕ) → is_withdrawn (es ++ e ∷ []) origin seq ≡ (is_withdrawn es origin seq || (bytes_eq origin e.origin && withdraws seq e.command))
unfolding is_withdrawn
withdrawn_more es e origin seq =
    list_any-append (λ w. bytes_eq origin w.origin && withdraws seq w.command) es (e ∷ [])
    ∙ ap (λ b. list_any (λ w. bytes_eq origin w.origin && withdraws seq w.command) es || b) (or-false (bytes_eq origin e.origin && withdraws seq e.command))

pub post_more : (es : List EntryValue) (e : EntryValue) (origin : List ℕ) (seq : ℕ) → has_post (es ++ e ∷ []) origin seq ≡ (has_post es origin seq || (bytes_eq origin e.origin && (e.seq == seq && is_post e.command)))
unfolding has_post
post_more es e origin seq =
    list_any-append (λ p. bytes_eq origin p.origin && (p.seq == seq && is_post p.command)) es (e ∷ [])
    ∙ ap (λ b. list_any (λ p. bytes_eq origin p.origin && (p.seq == seq && is_post p.command)) es || b) (or-false (bytes_eq origin e.origin && (e.seq == seq && is_post e.command)))

none_withdrawn : (origin : List ℕ) (seq : ℕ) → is_withdrawn [] origin seq ≡ false
unfolding is_withdrawn
none_withdrawn origin seq = refl

no_post : (origin : List ℕ) (seq : ℕ) → has_post [] origin seq ≡ false
unfolding has_post
no_post origin seq = refl

-- a command that withdraws a number is the withdrawal of it
pub withdraws_it : (seq : ℕ) (c : CommandValue) → withdraws seq c ≡ true → c ≡ withdraw seq
withdraws_it seq (post rows) h = absurd (cc)
withdraws_it seq (commit c) h = absurd (cc)
withdraws_it seq (set_policy p) h = absurd (cc)
withdraws_it seq (withdraw n) h = ap withdraw (eqb-true n seq h)
withdraws_it seq (add_purchase a) h = absurd (cc)

-- a command is a withdrawal, or withdraws nothing
pub withdraws_or_none : (c : CommandValue) → ((n : ℕ) × (c ≡ withdraw n)) ⊎ ((n : ℕ) → withdraws n c ≡ false)
withdraws_or_none (post rows) = inr (λ n. refl)
withdraws_or_none (commit c) = inr (λ n. refl)
withdraws_or_none (set_policy p) = inr (λ n. refl)
withdraws_or_none (withdraw n) = inl (n, refl)
withdraws_or_none (add_purchase a) = inr (λ n. refl)

and_none : (b c : Bool) → c ≡ false → (b && c) ≡ false
and_none true c none = none
and_none false c none = refl

or_none : (b c : Bool) → c ≡ false → (b || c) ≡ b
or_none true c none = refl
or_none false c none = none

-- an entry that withdraws nothing leaves what is withdrawn
pub withdrawn_same : (es : List EntryValue) (e : EntryValue) → ((n : ℕ) → withdraws n e.command ≡ false) → (origin : List ℕ) (seq : ℕ) → is_withdrawn (es ++ e ∷ []) origin seq ≡ is_withdrawn es origin seq
withdrawn_same es e none origin seq =
    withdrawn_more es e origin seq ∙ or_none (is_withdrawn es origin seq) (bytes_eq origin e.origin && withdraws seq e.command) (and_none (bytes_eq origin e.origin) (withdraws seq e.command) (none seq))

-- ---- a post that is withdrawn is there

both_stand : (there gone : Bool) → (if there then (if gone then Some conflict.Withdrawn else None) else Some conflict.NoSuchPost) ≡ None → (there ≡ true) × (gone ≡ false)
both_stand true true h = absurd (cc)
both_stand true false h = (refl, refl)
both_stand false gone h = absurd (cc)

-- what an accepted withdrawal takes away was there, and counted
pub withdraws_post : (es : List EntryValue) (origin : List ℕ) (n : ℕ) → command_conflict es origin (withdraw n) ≡ None → (has_post es origin n ≡ true) × (is_withdrawn es origin n ≡ false)
unfolding command_conflict withdrawal_conflict
withdraws_post es origin n h = both_stand (has_post es origin n) (is_withdrawn es origin n) h

pub accepted_withdrawal : (es : List EntryValue) (e : EntryValue) (n : ℕ) → judged es e ≡ verdict.Accept → e.command ≡ withdraw n → (has_post es e.origin n ≡ true) × (is_withdrawn es e.origin n ≡ false)
accepted_withdrawal es e n h command = withdraws_post es e.origin n (ap (command_conflict es e.origin) (sym command) ∙ accepted_command es e h)

or_first : (a b : Bool) → a ≡ true → (a || b) ≡ true
or_first true b h = refl
or_first false b h = absurd (cc)

post_stays : (es : List EntryValue) (e : EntryValue) (origin : List ℕ) (seq : ℕ) → has_post es origin seq ≡ true → has_post (es ++ e ∷ []) origin seq ≡ true
post_stays es e origin seq there = post_more es e origin seq ∙ or_first (has_post es origin seq) (bytes_eq origin e.origin && (e.seq == seq && is_post e.command)) there

abbrev WithdrawnArePosts : List EntryValue → Type 0
WithdrawnArePosts es = (origin : List ℕ) (seq : ℕ) → is_withdrawn es origin seq ≡ true → has_post es origin seq ≡ true

by_it : (es : List EntryValue) (e : EntryValue) → judged es e ≡ verdict.Accept → (origin : List ℕ) (seq : ℕ) → (bytes_eq origin e.origin && withdraws seq e.command) ≡ true → has_post es origin seq ≡ true
by_it es e h origin seq new =
    let parts = and_parts (bytes_eq origin e.origin) (withdraws seq e.command) new in
    let own : origin ≡ e.origin = (bytes_eq-Decides origin e.origin).0 parts.0 in
    ap (λ o. has_post es o seq) own ∙ (accepted_withdrawal es e seq h (withdraws_it seq e.command parts.1)).0

posts_kept : (es : List EntryValue) (e : EntryValue) → WithdrawnArePosts es → judged es e ≡ verdict.Accept → WithdrawnArePosts (es ++ e ∷ [])
posts_kept es e holds h origin seq gone =
    elim (or_cases (is_withdrawn es origin seq) (bytes_eq origin e.origin && withdraws seq e.command) (sym (withdrawn_more es e origin seq) ∙ gone)) [
      | inl before ↦ post_stays es e origin seq (holds origin seq before)
      | inr new ↦ post_stays es e origin seq (by_it es e h origin seq new)
    ]

pub withdrawn_is_post : (es : List EntryValue) → IsLegal es → (origin : List ℕ) (seq : ℕ) → is_withdrawn es origin seq ≡ true → has_post es origin seq ≡ true
withdrawn_is_post es legal =
    legal_kept WithdrawnArePosts posts_kept [] es (λ origin seq gone. let none = none_withdrawn origin seq in absurd (cc)) legal

-- ---- a post has one of the numbers that its sender used

abbrev PostsAreBefore : List EntryValue → Type 0
PostsAreBefore es = (origin : List ℕ) (seq : ℕ) → has_post es origin seq ≡ true → seq ≤ entries_from origin es

last_number : (es : List EntryValue) (e : EntryValue) → judged es e ≡ verdict.Accept → (origin : List ℕ) (seq : ℕ) → (bytes_eq origin e.origin && (e.seq == seq && is_post e.command)) ≡ true → seq ≤ entries_from origin (es ++ e ∷ [])
last_number es e h origin seq here =
    let parts = and_parts (bytes_eq origin e.origin) (e.seq == seq && is_post e.command) here in
    let own : origin ≡ e.origin = (bytes_eq-Decides origin e.origin).0 parts.0 in
    let number : e.seq ≡ seq = eqb-true e.seq seq (and_parts (e.seq == seq) (is_post e.command) parts.1).0 in
    let next : e.seq ≡ entries_from e.origin es + 1 = accepted_number es e h in
    let same : entries_from e.origin es ≡ entries_from origin es = ap (λ o. entries_from o es) (sym own) in
    let counted : entries_from origin (es ++ e ∷ []) ≡ entries_from origin es + 1 = entries_from_more origin es e ∙ ap (λ b. entries_from origin es + (if b then 1 else 0)) parts.0 in
    omega arith

before_kept : (es : List EntryValue) (e : EntryValue) → PostsAreBefore es → judged es e ≡ verdict.Accept → PostsAreBefore (es ++ e ∷ [])
before_kept es e holds h origin seq there =
    elim (or_cases (has_post es origin seq) (bytes_eq origin e.origin && (e.seq == seq && is_post e.command)) (sym (post_more es e origin seq) ∙ there)) [
      | inl before ↦ (let first = holds origin seq before in let grown = entries_from_grows origin es (e ∷ []) in omega arith)
      | inr new ↦ last_number es e h origin seq new
    ]

pub post_before : (es : List EntryValue) → IsLegal es → (origin : List ℕ) (seq : ℕ) → has_post es origin seq ≡ true → seq ≤ entries_from origin es
post_before es legal = legal_kept PostsAreBefore before_kept [] es (λ origin seq there. let none = no_post origin seq in absurd (cc)) legal

pub withdrawn_before : (es : List EntryValue) → IsLegal es → (origin : List ℕ) (seq : ℕ) → is_withdrawn es origin seq ≡ true → seq ≤ entries_from origin es
withdrawn_before es legal origin seq gone = post_before es legal origin seq (withdrawn_is_post es legal origin seq gone)

-- nobody has withdrawn an entry before it is accepted
pub new_stays : (es : List EntryValue) (e : EntryValue) → IsLegal es → judged es e ≡ verdict.Accept → is_withdrawn es e.origin e.seq ≡ false
new_stays es e legal h =
    elim (cases_Bool (is_withdrawn es e.origin e.seq)) [
      | inl gone ↦ absurd (let before = withdrawn_before es legal e.origin e.seq gone in let next = accepted_number es e h in omega arith)
      | inr stays ↦ stays
    ]

-- ---- the marks of an entry that withdraws nothing

marked_more : (says : EntryValue → Bool) (es : List EntryValue) (e : EntryValue) → marked says (es ++ e ∷ []) ≡ marked says es ++ replicate (posted_len e) (says e)
marked_more says es e = marked_append says es (e ∷ []) ∙ ap (λ marks. marked says es ++ marks) (marked_one says e)

pub counts_posted : (es : List EntryValue) (e : EntryValue) → IsLegal es → judged es e ≡ verdict.Accept → ((n : ℕ) → withdraws n e.command ≡ false) → counts_of (es ++ e ∷ []) ≡ counts_of es ++ replicate (posted_len e) true
unfolding counts_of
counts_posted es e legal h none =
    let all = es ++ e ∷ [] in
    let same = marked_like (stays all) (stays es) es (λ place x at. ap not (withdrawn_same es e none x.origin x.seq)) in
    let new : stays all e ≡ true = ap not (withdrawn_same es e none e.origin e.seq ∙ new_stays es e legal h) in
    marked_more (stays all) es e
    ∙ ap (λ marks. marks ++ replicate (posted_len e) (stays all e)) same
    ∙ ap (λ mark. marked (stays es) es ++ replicate (posted_len e) mark) new

-- ---- the marks of a withdrawal

taken_at : {A : Type 0} (xs : List A) (n i : ℕ) (x : A) → slice_get (take n xs) i ≡ Some x → (slice_get xs i ≡ Some x) × (i < n)
taken_at xs zero i x at = absurd (cc)
taken_at [] (suc n) i x at = absurd (cc)
taken_at (y ∷ xs) (suc n) zero x at = (at, omega arith)
taken_at (y ∷ xs) (suc n) (suc i) x at = let rest = taken_at xs n i x at in (rest.0, omega arith)

dropped_at : {A : Type 0} (xs : List A) (n i : ℕ) (x : A) → slice_get (drop n xs) i ≡ Some x → slice_get xs (n + i) ≡ Some x
dropped_at xs zero i x at = let same : 0 + i ≡ i = omega arith in ap (slice_get xs) same ∙ at
dropped_at [] (suc n) i x at = absurd (cc)
dropped_at (y ∷ xs) (suc n) i x at = let same : suc n + i ≡ suc (n + i) = omega arith in ap (slice_get (y ∷ xs)) same ∙ dropped_at xs n i x at

-- a withdrawal withdraws the post of its number, and leaves what else is withdrawn
pub withdrawn_by : (es : List EntryValue) (e : EntryValue) (n : ℕ) → e.command ≡ withdraw n → (origin : List ℕ) (seq : ℕ) → is_withdrawn (es ++ e ∷ []) origin seq ≡ (is_withdrawn es origin seq || (bytes_eq origin e.origin && n == seq))
withdrawn_by es e n command origin seq =
    withdrawn_more es e origin seq ∙ ap (λ c. is_withdrawn es origin seq || (bytes_eq origin e.origin && withdraws seq c)) command

not_meant : (es : List EntryValue) (e : EntryValue) (n : ℕ) (span : Span) → IsLegal es → (at : IsSpanOf es e.origin n span) → (place : ℕ) (x : EntryValue) → slice_get es place ≡ Some x → (place ≡ at.place → ⊥) → (bytes_eq x.origin e.origin && n == x.seq) ≡ false
not_meant es e n span legal at place x there apart =
    elim (cases_Bool (bytes_eq x.origin e.origin && n == x.seq)) [
      | inl meant ↦ absurd (
          let parts = and_parts (bytes_eq x.origin e.origin) (n == x.seq) meant in
          let own : x.origin ≡ e.origin = (bytes_eq-Decides x.origin e.origin).0 parts.0 in
          let number : n ≡ x.seq = eqb-true n x.seq parts.1 in
          apart (once es legal place at.place x at.entry there at.stands (own ∙ at.same_origin) (sym number ∙ sym at.same_number)))
      | inr other ↦ other
    ]

-- all other posts count as before
pub others_stay : (es : List EntryValue) (e : EntryValue) (n : ℕ) (span : Span) → IsLegal es → e.command ≡ withdraw n → (at : IsSpanOf es e.origin n span) → (place : ℕ) (x : EntryValue) → slice_get es place ≡ Some x → (place ≡ at.place → ⊥) → is_withdrawn (es ++ e ∷ []) x.origin x.seq ≡ is_withdrawn es x.origin x.seq
others_stay es e n span legal command at place x there apart =
    withdrawn_by es e n command x.origin x.seq
    ∙ or_none (is_withdrawn es x.origin x.seq) (bytes_eq x.origin e.origin && n == x.seq) (not_meant es e n span legal at place x there apart)

or_parts : (a b : Bool) → (a || b) ≡ false → (a ≡ false) × (b ≡ false)
or_parts true b none = absurd (cc)
or_parts false b none = (refl, none)

or_second : (a b : Bool) → b ≡ true → (a || b) ≡ true
or_second true b h = refl
or_second false b h = h

and_both : (a b : Bool) → a ≡ true → b ≡ true → (a && b) ≡ true
and_both true b one other = other
and_both false b one other = one

-- the post that is meant counts no more
pub it_goes : (es : List EntryValue) (e : EntryValue) (n : ℕ) (span : Span) → e.command ≡ withdraw n → (at : IsSpanOf es e.origin n span) → is_withdrawn (es ++ e ∷ []) at.entry.origin at.entry.seq ≡ true
it_goes es e n span command at =
    let own : bytes_eq at.entry.origin e.origin ≡ true = (bytes_eq-Decides at.entry.origin e.origin).1 (sym at.same_origin) in
    let number : n == at.entry.seq ≡ true = eq-eqb n at.entry.seq (sym at.same_number) in
    withdrawn_by es e n command at.entry.origin at.entry.seq
    ∙ or_second (is_withdrawn es at.entry.origin at.entry.seq) (bytes_eq at.entry.origin e.origin && n == at.entry.seq) (and_both (bytes_eq at.entry.origin e.origin) (n == at.entry.seq) own number)

-- and did before
pub it_stood : (es : List EntryValue) (e : EntryValue) (n : ℕ) (span : Span) → judged es e ≡ verdict.Accept → e.command ≡ withdraw n → (at : IsSpanOf es e.origin n span) → is_withdrawn es at.entry.origin at.entry.seq ≡ false
it_stood es e n span h command at =
    ap (λ o. is_withdrawn es o at.entry.seq) (sym at.same_origin) ∙ ap (is_withdrawn es e.origin) at.same_number ∙ (accepted_withdrawal es e n h command).1

no_rows : (e : EntryValue) (n : ℕ) → e.command ≡ withdraw n → posted_len e ≡ 0
no_rows e n command = ap (λ c. length (posted c)) command

-- the marks of the rows before the post that is meant, and of those behind it
marks_before : (es : List EntryValue) (e : EntryValue) (n : ℕ) (span : Span) → IsLegal es → e.command ≡ withdraw n → (at : IsSpanOf es e.origin n span) → marked (stays (es ++ e ∷ [])) (take at.place es) ≡ marked (stays es) (take at.place es)
marks_before es e n span legal command at =
    marked_like (stays (es ++ e ∷ [])) (stays es) (take at.place es)
    (λ place x there. let here = taken_at es at.place place x there in ap not (others_stay es e n span legal command at place x here.0 (λ same. omega (arith, here.1))))

marks_behind : (es : List EntryValue) (e : EntryValue) (n : ℕ) (span : Span) → IsLegal es → e.command ≡ withdraw n → (at : IsSpanOf es e.origin n span) → marked (stays (es ++ e ∷ [])) (drop (suc at.place) es) ≡ marked (stays es) (drop (suc at.place) es)
marks_behind es e n span legal command at =
    marked_like (stays (es ++ e ∷ [])) (stays es) (drop (suc at.place) es)
    (λ place x there. ap not (others_stay es e n span legal command at (suc at.place + place) x (dropped_at es (suc at.place) place x there) (λ same. omega arith)))

pub counts_withdrawn : (es : List EntryValue) (e : EntryValue) (n : ℕ) (span : Span) → IsLegal es → e.command ≡ withdraw n → IsSpanOf es e.origin n span → counts_of (es ++ e ∷ []) ≡ without span.start span.rows (counts_of es)
unfolding counts_of
counts_withdrawn es e n span legal command at =
    let all = es ++ e ∷ [] in
    let before = marked (stays es) (take at.place es) in
    let own = replicate (posted_len at.entry) (stays es at.entry) in
    let behind = marked (stays es) (drop (suc at.place) es) in
    let first : length before ≡ span.start = marked_count (stays es) (take at.place es) ∙ sym at.start in
    let long : length own ≡ span.rows = length-replicate (posted_len at.entry) (stays es at.entry) ∙ sym at.rows in
    let gone : stays all at.entry ≡ false = ap not (it_goes es e n span command at) in
    let none : marked (stays all) all ≡ marked (stays all) es =
    marked_more (stays all) es e ∙ ap (λ k. marked (stays all) es ++ replicate k (stays all e)) (no_rows e n command) ∙ append-nil (marked (stays all) es) in
    let after : marked (stays all) es ≡ before ++ (replicate span.rows false ++ behind) =
    marked_split (stays all) es at.place at.entry at.stands
    ∙ ap (λ marks. marks ++ (replicate (posted_len at.entry) (stays all at.entry) ++ marked (stays all) (drop (suc at.place) es))) (marks_before es e n span legal command at)
    ∙ ap (λ marks. before ++ (replicate (posted_len at.entry) (stays all at.entry) ++ marks)) (marks_behind es e n span legal command at)
    ∙ ap (λ mark. before ++ (replicate (posted_len at.entry) mark ++ behind)) gone
    ∙ ap (λ k. before ++ (replicate k false ++ behind)) (sym at.rows) in
    let taken : without span.start span.rows (marked (stays es) es) ≡ before ++ (replicate span.rows false ++ behind) =
    ap (without span.start span.rows) (marked_split (stays es) es at.place at.entry at.stands) ∙ without_middle before own behind span.start span.rows first long in
    none ∙ after ∙ sym taken

-- the rows that are withdrawn counted before
pub counts_whole : (es : List EntryValue) (e : EntryValue) (n : ℕ) (span : Span) → judged es e ≡ verdict.Accept → e.command ≡ withdraw n → IsSpanOf es e.origin n span → take span.rows (drop span.start (counts_of es)) ≡ replicate span.rows true
unfolding counts_of
counts_whole es e n span h command at =
    marked_whole (stays es) es e.origin n span at ∙ ap (λ b. replicate span.rows (not b)) (it_stood es e n span h command at)

-- the first mark of a post says whether it counts
pub stays_at : (es : List EntryValue) (origin : List ℕ) (seq : ℕ) (span : Span) → IsSpanOf es origin seq span → slice_get (counts_of es) span.start ≡ Some (not (is_withdrawn es origin seq))
unfolding counts_of
stays_at es origin seq span at =
    marked_at (stays es) es origin seq span at
    ∙ ap (λ o. Some (not (is_withdrawn es o at.entry.seq))) (sym at.same_origin)
    ∙ ap (λ k. Some (not (is_withdrawn es origin k))) at.same_number

-- ---- the rows that count

-- rows of entries, and those of some of the same entries
abbrev IsSomeOf : (EntryValue → List Charge) → (EntryValue → List Charge) → Type 0
IsSomeOf fewer all = (e : EntryValue) → (fewer e ≡ []) ⊎ (fewer e ≡ all e)

all_in_front : (P : Charge → Type 0) (rows more : List Charge) → All P (rows ++ more) → All P rows
all_in_front P rows more all = All-same P rows (take (length rows) (rows ++ more)) (sym (take_at rows more (length rows) refl)) (All-take P (length rows) (rows ++ more) all)

all_behind : (P : Charge → Type 0) (rows more : List Charge) → All P (rows ++ more) → All P more
all_behind P rows more all = All-same P more (drop (length rows) (rows ++ more)) (sym (drop_at rows more (length rows) refl)) (All-drop P (length rows) (rows ++ more) all)

all_of_some : (P : Charge → Type 0) (fewer all : List Charge) → (fewer ≡ []) ⊎ (fewer ≡ all) → All P all → All P fewer
all_of_some P fewer all some holds =
    elim some [
      | inl none ↦ All-same P fewer [] none (All-nil P)
      | inr same ↦ All-same P fewer all same holds
    ]

all_fewer : (P : Charge → Type 0) (fewer all : EntryValue → List Charge) → IsSomeOf fewer all → (es : List EntryValue) → All P (flat_map all es) → All P (flat_map fewer es)
all_fewer P fewer all some [] holds = All-nil P
all_fewer P fewer all some (e ∷ es) holds =
    All-append P (fewer e) (flat_map fewer es)
    (all_of_some P (fewer e) (all e) (some e) (all_in_front P (all e) (flat_map all es) holds))
    (all_fewer P fewer all some es (all_behind P (all e) (flat_map all es) holds))

at_most_all : (fewer all : List Charge) → (fewer ≡ []) ⊎ (fewer ≡ all) → length fewer ≤ length all
at_most_all fewer all some =
    elim some [
      | inl none ↦ (let count = ap length none in omega arith)
      | inr same ↦ (let count = ap length same in omega arith)
    ]

length_fewer : (fewer all : EntryValue → List Charge) → IsSomeOf fewer all → (es : List EntryValue) → length (flat_map fewer es) ≤ length (flat_map all es)
length_fewer fewer all some [] = omega arith
length_fewer fewer all some (e ∷ es) =
    let here = at_most_all (fewer e) (all e) (some e) in
    let rest = length_fewer fewer all some es in
    let few = length-append (fewer e) (flat_map fewer es) in
    let many = length-append (all e) (flat_map all es) in
    omega arith

flat_map_like : (f g : EntryValue → List Charge) (es : List EntryValue) → ((e : EntryValue) → f e ≡ g e) → flat_map f es ≡ flat_map g es
flat_map_like f g [] same = refl
flat_map_like f g (e ∷ es) same = ap (λ rows. rows ++ flat_map f es) (same e) ∙ ap (λ rows. g e ++ rows) (flat_map_like f g es same)

none_or_posted : (gone : Bool) (rows : List Charge) → ((if gone then [] else rows) ≡ []) ⊎ ((if gone then [] else rows) ≡ rows)
none_or_posted true rows = inl refl
none_or_posted false rows = inr refl

-- no more rows count than were posted, and each of them was
pub rows_of_at_most : (es : List EntryValue) → length (rows_of es) ≤ length (rows_posted es)
unfolding rows_of rows_posted
rows_of_at_most es = length_fewer (counting es) (λ e. posted e.command) (λ e. none_or_posted (is_withdrawn es e.origin e.seq) (posted e.command)) es

pub rows_of_posted : (P : Charge → Type 0) (es : List EntryValue) → All P (rows_posted es) → All P (rows_of es)
unfolding rows_of rows_posted
rows_of_posted P es holds = all_fewer P (counting es) (λ e. posted e.command) (λ e. none_or_posted (is_withdrawn es e.origin e.seq) (posted e.command)) es holds

counting_more : (all es : List EntryValue) (e : EntryValue) → flat_map (counting all) (es ++ e ∷ []) ≡ flat_map (counting all) es ++ counting all e
counting_more all es e = flat_map-append (counting all) es (e ∷ []) ∙ ap (λ rows. flat_map (counting all) es ++ rows) (append-nil (counting all e))

-- with an entry that withdraws nothing its own rows count too
pub rows_of_more : (es : List EntryValue) (e : EntryValue) → IsLegal es → judged es e ≡ verdict.Accept → ((n : ℕ) → withdraws n e.command ≡ false) → rows_of (es ++ e ∷ []) ≡ rows_of es ++ posted e.command
unfolding rows_of
rows_of_more es e legal h none =
    let all = es ++ e ∷ [] in
    counting_more all es e
    ∙ ap (λ rows. rows ++ counting all e) (flat_map_like (counting all) (counting es) es (λ x. ap (λ gone. if gone then [] else posted x.command) (withdrawn_same es e none x.origin x.seq)))
    ∙ ap (λ gone. flat_map (counting es) es ++ (if gone then [] else posted e.command)) (withdrawn_same es e none e.origin e.seq ∙ new_stays es e legal h)

no_rows_count : (gone : Bool) (rows : List Charge) → rows ≡ [] → (if gone then [] else rows) ≡ []
no_rows_count true rows none = refl
no_rows_count false rows none = none

-- with a withdrawal only rows of those before count
counting_left : (es : List EntryValue) (e : EntryValue) (n : ℕ) → e.command ≡ withdraw n → rows_of (es ++ e ∷ []) ≡ flat_map (counting (es ++ e ∷ [])) es
unfolding rows_of
counting_left es e n command =
    let all = es ++ e ∷ [] in
    counting_more all es e
    ∙ ap (λ rows. flat_map (counting all) es ++ rows) (no_rows_count (is_withdrawn all e.origin e.seq) (posted e.command) (ap posted command))
    ∙ append-nil (flat_map (counting all) es)

left_or_none : (was new : Bool) (rows : List Charge) → ((if was || new then [] else rows) ≡ []) ⊎ ((if was || new then [] else rows) ≡ (if was then [] else rows))
left_or_none true new rows = inl refl
left_or_none false true rows = inl refl
left_or_none false false rows = inr refl

still_counting : (es : List EntryValue) (e : EntryValue) (n : ℕ) → e.command ≡ withdraw n → IsSomeOf (counting (es ++ e ∷ [])) (counting es)
still_counting es e n command x =
    subst (λ gone. ((if gone then [] else posted x.command) ≡ []) ⊎ ((if gone then [] else posted x.command) ≡ counting es x)) (sym (withdrawn_by es e n command x.origin x.seq))
    (left_or_none (is_withdrawn es x.origin x.seq) (bytes_eq x.origin e.origin && n == x.seq) (posted x.command))

pub rows_of_less : (P : Charge → Type 0) (es : List EntryValue) (e : EntryValue) (n : ℕ) → e.command ≡ withdraw n → All P (rows_of es) → All P (rows_of (es ++ e ∷ []))
unfolding rows_of
rows_of_less P es e n command holds =
    All-same P (rows_of (es ++ e ∷ [])) (flat_map (counting (es ++ e ∷ [])) es) (counting_left es e n command)
    (all_fewer P (counting (es ++ e ∷ [])) (counting es) (still_counting es e n command) es holds)

-- ---- how often ids are in use

filter_like : {A : Type 0} (p q : A → Bool) (xs : List A) → ((place : ℕ) (x : A) → slice_get xs place ≡ Some x → p x ≡ q x) → filter p xs ≡ filter q xs
filter_like p q [] same = refl
filter_like p q (x ∷ xs) same =
    ap (λ b. cond b (x ∷ filter p xs) (filter p xs)) (same zero x refl) ∙ ap (λ kept. cond (q x) (x ∷ kept) kept) (filter_like p q xs (λ place y at. same (suc place) y at))

one_kept : {A : Type 0} (passes : Bool) (x : A) (kept : List A) → length (cond passes (x ∷ kept) kept) ≡ (if passes then 1 else 0) + length kept
one_kept true x kept = omega arith
one_kept false x kept = omega arith

-- how many pass before an element, whether it does, and how many behind it
count_split : {A : Type 0} (p : A → Bool) (xs : List A) (place : ℕ) (x : A) → slice_get xs place ≡ Some x → length (filter p xs) ≡ length (filter p (take place xs)) + ((if p x then 1 else 0) + length (filter p (drop (suc place) xs)))
count_split p xs place x at =
    ap (λ ys. length (filter p ys)) (split_at xs place x at)
    ∙ ap length (filter-append p (take place xs) (x ∷ drop (suc place) xs))
    ∙ length-append (filter p (take place xs)) (cond (p x) (x ∷ filter p (drop (suc place) xs)) (filter p (drop (suc place) xs)))
    ∙ ap (λ k. length (filter p (take place xs)) + k) (one_kept (p x) x (filter p (drop (suc place) xs)))

-- one element more that doesn't pass
filter_same : {A : Type 0} (p : A → Bool) (xs : List A) (x : A) → p x ≡ false → filter p (xs ++ x ∷ []) ≡ filter p xs
filter_same p xs x fails = filter-append p xs (x ∷ []) ∙ ap (λ b. filter p xs ++ cond b (x ∷ []) []) fails ∙ append-nil (filter p xs)

-- whether a post is withdrawn that has a row with the id
abbrev gone_with : List ℕ → List EntryValue → EntryValue → Bool
gone_with id all e = is_withdrawn all e.origin e.seq && carries id (posted e.command)

pub withdrawn_with_more : (id : List ℕ) (es : List EntryValue) (e : EntryValue) → IsLegal es → judged es e ≡ verdict.Accept → ((n : ℕ) → withdraws n e.command ≡ false) → withdrawn_with id (es ++ e ∷ []) ≡ withdrawn_with id es
unfolding withdrawn_with
withdrawn_with_more id es e legal h none =
    let all = es ++ e ∷ [] in
    let new : gone_with id all e ≡ false = ap (λ gone. gone && carries id (posted e.command)) (withdrawn_same es e none e.origin e.seq ∙ new_stays es e legal h) in
    ap length (filter_same (gone_with id all) es e new)
    ∙ ap length (filter_like (gone_with id all) (gone_with id es) es (λ place x at. ap (λ gone. gone && carries id (posted x.command)) (withdrawn_same es e none x.origin x.seq)))

none_carries : (id : List ℕ) → carries id [] ≡ false
unfolding carries
none_carries id = refl

-- how many pass two tests that differ at one element alone, which fails one of them
count_but_one : {A : Type 0} (p q : A → Bool) (xs : List A) (place : ℕ) (x : A) (one : Bool) → slice_get xs place ≡ Some x → ((i : ℕ) (y : A) → slice_get xs i ≡ Some y → (i ≡ place → ⊥) → p y ≡ q y) → p x ≡ one → q x ≡ false → length (filter p xs) ≡ length (filter q xs) + (if one then 1 else 0)
count_but_one p q xs place x one at same here fails =
    let before : length (filter p (take place xs)) ≡ length (filter q (take place xs)) =
    ap length (filter_like p q (take place xs) (λ i y there. let first = taken_at xs place i y there in same i y first.0 (λ e. omega (arith, first.1)))) in
    let behind : length (filter p (drop (suc place) xs)) ≡ length (filter q (drop (suc place) xs)) =
    ap length (filter_like p q (drop (suc place) xs) (λ i y there. same (suc place + i) y (dropped_at xs (suc place) i y there) (λ e. omega arith))) in
    let counts = ap {B = ℕ} (λ b. if b then 1 else 0) here in
    let none = ap {B = ℕ} (λ b. if b then 1 else 0) fails in
    let all = count_split p xs place x at in
    let others = count_split q xs place x at in
    omega arith

pub withdrawn_with_one : (id : List ℕ) (es : List EntryValue) (e : EntryValue) (n : ℕ) (span : Span) → IsLegal es → judged es e ≡ verdict.Accept → e.command ≡ withdraw n → (at : IsSpanOf es e.origin n span) → withdrawn_with id (es ++ e ∷ []) ≡ withdrawn_with id es + (if carries id (posted at.entry.command) then 1 else 0)
unfolding withdrawn_with
withdrawn_with_one id es e n span legal h command at =
    let all = es ++ e ∷ [] in
    let own : gone_with id all e ≡ false =
    ap (λ c. is_withdrawn all e.origin e.seq && carries id (posted c)) command ∙ and_none (is_withdrawn all e.origin e.seq) (carries id []) (none_carries id) in
    ap length (filter_same (gone_with id all) es e own)
    ∙ count_but_one (gone_with id all) (gone_with id es) es at.place at.entry (carries id (posted at.entry.command)) at.stands
    (λ i x there apart. ap (λ gone. gone && carries id (posted x.command)) (others_stay es e n span legal command at i x there apart))
    (ap (λ gone. gone && carries id (posted at.entry.command)) (it_goes es e n span command at))
    (ap (λ gone. gone && carries id (posted at.entry.command)) (it_stood es e n span h command at))

-- some pass that are not taken away just where fewer are taken away than pass
left_step : {A : Type 0} (x : A) (taken all : List A) (gone passes any : Bool) → any ≡ nat_lt (length taken) (length all) → length taken ≤ length all → ((not gone && passes) || any) ≡ nat_lt (length (cond (gone && passes) (x ∷ taken) taken)) (length (cond passes (x ∷ all) all))
left_step x taken all true true any same fewer = same ∙ grind (arith, nat_tests)
left_step x taken all true false any same fewer = same
left_step x taken all false true any same fewer = sym (lt-ltb (length taken) (suc (length all)) (omega arith))
left_step x taken all false false any same fewer = same

fewer_step : {A : Type 0} (x : A) (taken all : List A) (gone passes : Bool) → length taken ≤ length all → length (cond (gone && passes) (x ∷ taken) taken) ≤ length (cond passes (x ∷ all) all)
fewer_step x taken all true true fewer = omega arith
fewer_step x taken all true false fewer = fewer
fewer_step x taken all false true fewer = omega arith
fewer_step x taken all false false fewer = fewer

fewer_taken : {A : Type 0} (gone passes : A → Bool) (xs : List A) → length (filter (λ x. gone x && passes x) xs) ≤ length (filter passes xs)
fewer_taken gone passes [] = omega arith
fewer_taken gone passes (x ∷ xs) = fewer_step x (filter (λ x. gone x && passes x) xs) (filter passes xs) (gone x) (passes x) (fewer_taken gone passes xs)

some_left : {A : Type 0} (gone passes : A → Bool) (xs : List A) → list_any (λ x. not (gone x) && passes x) xs ≡ nat_lt (length (filter (λ x. gone x && passes x) xs)) (length (filter passes xs))
some_left gone passes [] = refl
some_left gone passes (x ∷ xs) =
    left_step x (filter (λ x. gone x && passes x) xs) (filter passes xs) (gone x) (passes x) (list_any (λ x. not (gone x) && passes x) xs) (some_left gone passes xs) (fewer_taken gone passes xs)

counting_carries : (id : List ℕ) (gone : Bool) (rows : List Charge) → list_any (has_id id) (if gone then [] else rows) ≡ (not gone && list_any (has_id id) rows)
counting_carries id true rows = refl
counting_carries id false rows = refl

carried_left : (id : List ℕ) (all es : List EntryValue) → list_any (has_id id) (flat_map (counting all) es) ≡ list_any (λ (e : EntryValue). not (is_withdrawn all e.origin e.seq) && list_any (has_id id) (posted e.command)) es
carried_left id all [] = refl
carried_left id all (e ∷ es) =
    list_any-append (has_id id) (counting all e) (flat_map (counting all) es)
    ∙ ap (λ b. b || list_any (has_id id) (flat_map (counting all) es)) (counting_carries id (is_withdrawn all e.origin e.seq) (posted e.command))
    ∙ ap (λ b. (not (is_withdrawn all e.origin e.seq) && list_any (has_id id) (posted e.command)) || b) (carried_left id all es)

-- a row that counts carries the id just where fewer posts with it are withdrawn than there are
pub carried_in_use : (id : List ℕ) (es : List EntryValue) → carries id (rows_of es) ≡ nat_lt (withdrawn_with id es) (posts_with id es)
unfolding carries rows_of withdrawn_with posts_with
carried_in_use id es = carried_left id es es ∙ some_left (λ e. is_withdrawn es e.origin e.seq) (λ e. carries id (posted e.command)) es

pub withdrawn_at_most : (id : List ℕ) (es : List EntryValue) → withdrawn_with id es ≤ posts_with id es
unfolding withdrawn_with posts_with
withdrawn_at_most id es = fewer_taken (λ e. is_withdrawn es e.origin e.seq) (λ e. carries id (posted e.command)) es

-- ---- the rows that a withdrawal doesn't touch

filter_each : (keep : Charge → Bool) (f g : EntryValue → List Charge) (es : List EntryValue) → ((place : ℕ) (e : EntryValue) → slice_get es place ≡ Some e → filter keep (f e) ≡ filter keep (g e)) → filter keep (flat_map f es) ≡ filter keep (flat_map g es)
filter_each keep f g [] same = refl
filter_each keep f g (e ∷ es) same =
    filter-append keep (f e) (flat_map f es)
    ∙ ap (λ rows. rows ++ filter keep (flat_map f es)) (same zero e refl)
    ∙ ap (λ rows. filter keep (g e) ++ rows) (filter_each keep f g es (λ place x at. same (suc place) x at))
    ∙ sym (filter-append keep (g e) (flat_map g es))

none_kept : {A : Type 0} (keep : A → Bool) (xs : List A) → list_any keep xs ≡ false → filter keep xs ≡ []
none_kept keep [] none = refl
none_kept keep (x ∷ xs) none =
    let parts = or_parts (keep x) (list_any keep xs) none in
    ap (λ b. cond b (x ∷ filter keep xs) (filter keep xs)) parts.0 ∙ none_kept keep xs parts.1

kept_the_same : (keep : Charge → Bool) (was new : Bool) (rows : List Charge) → (new ≡ true → list_any keep rows ≡ false) → filter keep (if was || new then [] else rows) ≡ filter keep (if was then [] else rows)
kept_the_same keep true new rows none = refl
kept_the_same keep false true rows none = sym (none_kept keep rows (none refl))
kept_the_same keep false false rows none = refl

-- rows of which the withdrawn post has none count as before
pub rows_elsewhere_if : (es : List EntryValue) (e : EntryValue) (n : ℕ) → e.command ≡ withdraw n → (keep : Charge → Bool) → ((place : ℕ) (x : EntryValue) → slice_get es place ≡ Some x → x.origin ≡ e.origin → x.seq ≡ n → list_any keep (posted x.command) ≡ false) → filter keep (rows_of (es ++ e ∷ [])) ≡ filter keep (rows_of es)
unfolding rows_of
rows_elsewhere_if es e n command keep none =
    ap (filter keep) (counting_left es e n command)
    ∙ filter_each keep (counting (es ++ e ∷ [])) (counting es) es
    (λ place x at.
    ap (λ gone. filter keep (if gone then [] else posted x.command)) (withdrawn_by es e n command x.origin x.seq)
    ∙ kept_the_same keep (is_withdrawn es x.origin x.seq) (bytes_eq x.origin e.origin && n == x.seq) (posted x.command)
    (λ meant.
    let parts = and_parts (bytes_eq x.origin e.origin) (n == x.seq) meant in
    none place x at ((bytes_eq-Decides x.origin e.origin).0 parts.0) (sym (eqb-true n x.seq parts.1))))

the_same_entry : (es : List EntryValue) (i j : ℕ) (a b : EntryValue) → i ≡ j → slice_get es i ≡ Some a → slice_get es j ≡ Some b → a ≡ b
the_same_entry es i j a b same at there = cc

pub rows_elsewhere : (es : List EntryValue) (e : EntryValue) (n : ℕ) (span : Span) → IsLegal es → e.command ≡ withdraw n → (at : IsSpanOf es e.origin n span) → (keep : Charge → Bool) → list_any keep (posted at.entry.command) ≡ false → filter keep (rows_of (es ++ e ∷ [])) ≡ filter keep (rows_of es)
rows_elsewhere es e n span legal command at keep none =
    rows_elsewhere_if es e n command keep
    (λ place x there origin seq.
    let one = once es legal place at.place x at.entry there at.stands (origin ∙ at.same_origin) (seq ∙ sym at.same_number) in
    ap (λ (y : EntryValue). list_any keep (posted y.command)) (the_same_entry es place at.place x at.entry one there at.stands) ∙ none)
