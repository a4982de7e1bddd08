-- Rows of segments, one after the other.
use Rattle.std.proofs.Common.{◌≡◌, ◌∙◌, ◌+◌, ◌-◌, ◌<◌, ◌≤◌, ◌++◌, ◌∷◌, ◌||◌, [], ℕ, zero, suc, List, Bool, true, false, Some, None, IfSome, if◌then◌else◌, length, take, drop, replicate, slice_get, nat_lt, nat_le, refl, sym, ap, arith}
use Rattle.std.specs.List.{list_all, list_any}
use Rattle.std.proofs.lemmas.Bool.{and_parts, leb-true, ltb-true, ltb-false}
use Rattle.std.proofs.Math.Seq.{take-add, take-append-add, drop-append-add}
use Rattle.std.proofs.lemmas.List.{drop-drop, drop-replicate, drop-take, length-append, length-map, length-replicate, length-take-le, take-replicate, take-take, take_all}
use Rattle.std.specs.Prelude.{◌&&◌, Option}
use Rattle.std.specs.Option.{option_map_or}
use Rattle.fw_charge.specs.Charge.{Charge, DiscountText}
use Rattle.fw_persistent.specs.Counts.{Counts, count_of}
use Rattle.fw_entry.specs.Entry.{EntryValue, is_origin, is_origin_byte, most_origin_bytes}
use Rattle.fw_entry.specs.Entry.CommandValue.{commit, post, withdraw, add_purchase}
use Rattle.fw_terms.specs.Added.{AddedValue}
use Rattle.fw_entry.specs.Spelling.{entry, most_entry_bytes}
use Rattle.fw_terms.specs.Commitment.{CommitmentValue}
use Rattle.fw_terms.specs.Policy.{PolicyValue}
use Rattle.fw_snapshot.specs.Building.{has_counted_id, rows_before}
use Rattle.fw_snapshot.specs.Adding.{commitments_after, NoneRefuses}
use Rattle.fw_snapshot.specs.BuilderView.{singles}
use Rattle.fw_posted.specs.Marks.{without}
use Rattle.fw_posted.specs.Rows.{segment_rows}
use Rattle.fw_posted.proofs.MarkFacts.{length-without}
use Rattle.fw_snapshot.specs.Heads.{ContentValue, command_of}
use Rattle.fw_snapshot.specs.Heads.ContentValue.{posted_rows, committed_to, policy_set, post_withdrawn, purchase_added}
use Rattle.fw_snapshot.specs.History.{committed, committed_of, commitments_of, is_withdrawn, policy_after, rows_of, rows_posted}
use Rattle.fw_snapshot.specs.Judging.{carries, carries_any, command_conflict, commitment_conflict, has_post, purchase_conflict, refuses, withdrawal_conflict, has_registered_id, is_registered, judged, most_commitments, most_rows, rows_conflict}
use Rattle.fw_snapshot.specs.Posts.{counts_after, target_of, times_named}
use Rattle.fw_snapshot.specs.declared.places.Place.{Place}
use Rattle.fw_snapshot.specs.declared.posts.Span.{Span}
use Rattle.fw_snapshot.specs.Verdicts.{goes_behind, is_accept}
use Rattle.fw_snapshot.specs.declared.verdict.Conflict.TheVariants as conflict
use Rattle.fw_snapshot.specs.declared.verdict.Verdict.{Verdict}
use Rattle.fw_snapshot.specs.declared.verdict.Verdict.TheVariants as verdict
use Rattle.fw_snapshot.specs.Uses.{commitments_with}
use Rattle.fw_snapshot.proofs.EntryFacts.{commitments_in_use}

two_ways : {P : Type 0} (b : Bool) → (b ≡ true → P) → (b ≡ false → P) → P
two_ways true f g = f refl
two_ways false f g = g refl

-- rows that are a segment each
pub rows_of_singles : (rows : List Charge) → segment_rows (singles rows) ≡ rows
rows_of_singles [] = refl
rows_of_singles (r ∷ rows) = ap (λ rest. r ∷ rest) (rows_of_singles rows)

pub length_singles : (rows : List Charge) → length (singles rows) ≡ length rows
length_singles rows = length-map rows (λ r. r ∷ [])

-- ---- the segment of a place

-- the rows before a segment, and with it
pub after_segment : (segments : List (List Charge)) (i : ℕ) (s : List Charge) → slice_get segments i ≡ Some s → length (segment_rows (take (i + 1) segments)) ≡ length (segment_rows (take i segments)) + length s
after_segment [] i s at = absurd cc
after_segment (t ∷ ts) zero s at =
    let same : length t ≡ length s = ap length (let is : t ≡ s = cc in is) in
    let both = length-append t (segment_rows (take zero ts)) in
    omega (arith, same, both)
after_segment (t ∷ ts) (suc i) s at =
    let rest = after_segment ts i s at in
    let more = length-append t (segment_rows (take (i + 1) ts)) in
    let less = length-append t (segment_rows (take i ts)) in
    let first : length (segment_rows (take (suc i + 1) (t ∷ ts))) ≡ length (t ++ segment_rows (take (i + 1) ts)) = ap (λ n. length (segment_rows (take n (t ∷ ts)))) (let next : suc i + 1 ≡ suc (i + 1) = omega arith in next) in
    omega (arith, rest, more, less, first)

-- where a row is left, the place is in a segment
pub there_is : (segments : List (List Charge)) (at : Place) → rows_before segments at < length (segment_rows segments) → at.segment < length segments
there_is segments at left = two_ways (nat_lt at.segment (length segments))
    (λ t. ltb-true _ _ t)
    (λ f.
    let past : length segments ≤ at.segment = ltb-false _ _ f in
    let all = ap (λ list. length (segment_rows list)) (take_all at.segment segments past) in
    absurd (omega (arith, left, all)))

-- ---- marks of which a range is taken away

long_front : (start count : ℕ) (marks : List Bool) → start ≤ length marks → length (take start marks ++ replicate count false) ≡ start + count
long_front start count marks inside =
    omega (arith, length-append (take start marks) (replicate count false), length-take-le start marks inside, length-replicate count false)

-- the range is among the first marks
take_without : (start count rows : ℕ) (marks : List Bool) → start + count ≤ rows → rows ≤ length marks → take rows (without start count marks) ≡ without start count (take rows marks)
unfolding without
take_without start count rows marks within long =
    let front : List Bool = take start marks ++ replicate count false in
    let rest : ℕ = rows - (start + count) in
    let first : length front ≡ start + count = long_front start count marks (omega arith) in
    let sum : start + count + rest ≡ rows = omega arith in
    ap (λ n. take n (front ++ drop (start + count) marks)) (let whole : rows ≡ length front + rest = omega (arith, first, sum) in whole)
    ∙ take-append-add front (drop (start + count) marks) rest
    ∙ ap (λ l. front ++ l) (sym (drop-take (start + count) rest marks) ∙ ap (λ n. drop (start + count) (take n marks)) sum)
    ∙ ap (λ l. l ++ replicate count false ++ drop (start + count) (take rows marks)) (sym (take-take start rows marks (omega arith)))

drop_without : (start count rows : ℕ) (marks : List Bool) → start + count ≤ rows → rows ≤ length marks → drop rows (without start count marks) ≡ drop rows marks
unfolding without
drop_without start count rows marks within long =
    let front : List Bool = take start marks ++ replicate count false in
    let rest : ℕ = rows - (start + count) in
    let first : length front ≡ start + count = long_front start count marks (omega arith) in
    let sum : start + count + rest ≡ rows = omega arith in
    ap (λ n. drop n (front ++ drop (start + count) marks)) (let whole : rows ≡ length front + rest = omega (arith, first, sum) in whole)
    ∙ drop-append-add front (drop (start + count) marks) rest
    ∙ drop-drop rest (start + count) marks
    ∙ ap (λ n. drop n marks) sum

-- ---- the marks of a builder after an entry: of all rows so many are taken, and so many more by the entry

-- the marks of which the range of a span is taken away, if there is one
abbrev pub marks_after : Option Span → List Bool → List Bool
marks_after named marks = option_map_or (λ span. without span.start span.rows marks) named marks

pub length_after : (named : Option Span) (marks : List Bool) (rows : ℕ) → rows ≤ length marks → IfSome named (λ span. span.start + span.rows ≤ rows) → length (marks_after named marks) ≡ length marks
length_after None marks rows long within = refl
length_after (Some span) marks rows long within = length-without span.start span.rows marks (omega arith)

-- the entry posts its rows, or takes away those of a span, and then it has none
pub taken_after : (named : Option Span) (marks : List Bool) (rows more : ℕ) → rows + more ≤ length marks → drop rows marks ≡ replicate (length marks - rows) true
    → IfSome named (λ span. span.start + span.rows ≤ rows) → IfSome named (λ _. more ≡ 0) → take (rows + more) (marks_after named marks) ≡ counts_after named more (take rows marks)
taken_after None marks rows more enough left within none =
    take-add rows more marks ∙ ap (λ l. take rows marks ++ l) (ap (take more) left ∙ take-replicate more (length marks - rows) true (omega arith))
taken_after (Some span) marks rows more enough left within none =
    ap (λ n. take n (without span.start span.rows marks)) (let same : rows + more ≡ rows = omega arith in same)
    ∙ take_without span.start span.rows rows marks within (omega arith)

left_behind : (marks : List Bool) (rows more : ℕ) → drop rows marks ≡ replicate (length marks - rows) true → drop (rows + more) marks ≡ replicate (length marks - (rows + more)) true
left_behind marks rows more left =
    sym (drop-drop more rows marks) ∙ ap (drop more) left ∙ drop-replicate more (length marks - rows) true
    ∙ ap (λ n. replicate n true) (let same : length marks - rows - more ≡ length marks - (rows + more) = omega arith in same)

-- those behind them still count
pub left_after : (named : Option Span) (marks : List Bool) (rows more : ℕ) → rows + more ≤ length marks → drop rows marks ≡ replicate (length marks - rows) true
    → IfSome named (λ span. span.start + span.rows ≤ rows) → drop (rows + more) (marks_after named marks) ≡ replicate (length marks - (rows + more)) true
left_after None marks rows more enough left within = left_behind marks rows more left
left_after (Some span) marks rows more enough left within =
    drop_without span.start span.rows (rows + more) marks (omega arith) enough
    ∙ left_behind marks rows more left

-- ---- the post that an entry withdraws, among the rows that are taken

range_taken : {X : Type 0} (start count n : ℕ) (xs : List X) → start + count ≤ n → take count (drop start (take n xs)) ≡ take count (drop start xs)
range_taken start count n xs within =
    ap (λ k. take count (drop start (take k xs))) (let sum : n ≡ start + (n - start) = omega arith in sum)
    ∙ ap (take count) (drop-take start (n - start) xs)
    ∙ take-take count (n - start) (drop start xs) (omega arith)

pub times_taken : (id : List ℕ) (named : Option Span) (n : ℕ) (rows : List Charge) → IfSome named (λ span. span.start + span.rows ≤ n) → times_named id named (take n rows) ≡ times_named id named rows
times_taken id None n rows within = refl
times_taken id (Some span) n rows within = ap (λ (xs : List Charge). if carries id xs then 1 else 0) (range_taken span.start span.rows n rows within)

pub target_back : (c : ContentValue) (rows : List Charge) → target_of (command_of c []) ≡ target_of (command_of c rows)
target_back (posted_rows n) rows = refl
target_back (committed_to c) rows = refl
target_back (policy_set p) rows = refl
target_back (post_withdrawn n) rows = refl
target_back (purchase_added a) rows = refl

-- ---- why an entry can't follow

pub post_conflict : (es : List EntryValue) (origin : List ℕ) (more : List Charge) (rows n : ℕ) (own : Bool) → rows ≡ length (rows_posted es) → length more ≡ n → own ≡ carries_any more (committed_of es)
    → (if nat_lt most_rows (rows + n) then Some conflict.Full else (if own then Some conflict.OwnCommitment else None)) ≡ command_conflict es origin (post more)
unfolding command_conflict rows_conflict
post_conflict es origin more rows n own count len carry = rw (count, sym len, carry) refl

pub commit_conflict : (es : List EntryValue) (origin : List ℕ) (c : CommitmentValue) (registered carried : Bool) (n : ℕ) → registered ≡ is_registered c.id (committed_of es) → carried ≡ carries c.id (rows_of es) → n ≡ length (committed_of es)
    → (if registered then Some conflict.DoubleId else (if carried then Some conflict.IdInUse else (if nat_le most_commitments n then Some conflict.TooManyCommitments else None))) ≡ command_conflict es origin (commit c)
unfolding command_conflict commitment_conflict
commit_conflict es origin c registered carried n is in_use count = rw (is, in_use, count) refl

pub withdrawn_conflict : (es : List EntryValue) (origin : List ℕ) (seq : ℕ) (has withdrawn : Bool) → has ≡ has_post es origin seq → withdrawn ≡ is_withdrawn es origin seq
    → (if has then (if withdrawn then Some conflict.Withdrawn else None) else Some conflict.NoSuchPost) ≡ command_conflict es origin (withdraw seq)
unfolding command_conflict withdrawal_conflict
withdrawn_conflict es origin seq has withdrawn is also = rw (is, also) refl

pub added_conflict : (es : List EntryValue) (origin : List ℕ) (a : AddedValue) (registered refused : Bool) → registered ≡ is_registered a.id (commitments_of es) → refused ≡ list_any (refuses a) (commitments_of es)
    → (if registered then (if refused then Some conflict.PurchaseLimit else None) else Some conflict.NoSuchCommitment) ≡ command_conflict es origin (add_purchase a)
unfolding command_conflict purchase_conflict
added_conflict es origin a registered refused is also = rw (is, also) refl

-- ---- ids that are counted

counted_discount : (counts : Counts) (cs : List CommitmentValue) → ((id : List ℕ) → count_of id counts ≡ commitments_with id cs) → (discount : Option DiscountText) → option_map_or (λ d. nat_lt 0 (count_of d.id counts)) discount false ≡ option_map_or (λ d. is_registered d.id cs) discount false
counted_discount counts cs same None = refl
counted_discount counts cs same (Some d) = ap (nat_lt 0) (same d.id) ∙ commitments_in_use d.id cs

-- a row carries a registered id where the id is counted
pub counted_any : (counts : Counts) (cs : List CommitmentValue) → ((id : List ℕ) → count_of id counts ≡ commitments_with id cs) → (rows : List Charge) → list_any (has_counted_id counts) rows ≡ carries_any rows cs
unfolding carries_any
counted_any counts cs same [] = refl
counted_any counts cs same (r ∷ rows) =
    ap (λ b. b || list_any (has_counted_id counts) rows) (counted_discount counts cs same r.discount)
    ∙ ap (λ b. has_registered_id cs r || b) (counted_any counts cs same rows)

-- ---- an entry that goes behind the others

accepted : (v : Verdict) → is_accept v ≡ true → v ≡ verdict.Accept
accepted verdict.Accept e = refl
accepted (verdict.Already n) e = absurd cc
accepted (verdict.Gap n) e = absurd cc
accepted (verdict.Refused why) e = absurd cc

pub behind_parts : (entries : List EntryValue) (e : EntryValue) → goes_behind entries e ≡ true → (length (entry e) ≤ most_entry_bytes) × (judged entries e ≡ verdict.Accept)
unfolding goes_behind
behind_parts entries e h =
    let p = and_parts (nat_le (length (entry e)) most_entry_bytes) (is_accept (judged entries e)) h in
    (leb-true _ _ p.0, accepted (judged entries e) p.1)

pub short_origin : (bytes : List ℕ) → is_origin bytes ≡ true → length bytes ≤ most_origin_bytes
unfolding is_origin
short_origin bytes e =
    let p = and_parts (nat_lt 0 (length bytes)) (nat_lt (length bytes) 65 && list_all is_origin_byte bytes) e in
    let q = and_parts (nat_lt (length bytes) 65) (list_all is_origin_byte bytes) p.1 in
    let short = ltb-true _ _ q.0 in
    omega (arith, short)

-- what a command commits to, and the policy after it, don't hang on its rows
pub committed_back : (c : ContentValue) (rows : List Charge) → committed (command_of c []) ≡ committed (command_of c rows)
committed_back (posted_rows n) rows = refl
committed_back (committed_to c) rows = refl
committed_back (policy_set p) rows = refl
committed_back (post_withdrawn n) rows = refl
committed_back (purchase_added a) rows = refl

pub after_back : (before : List CommitmentValue) (c : ContentValue) (rows : List Charge) → commitments_after before (command_of c []) ≡ commitments_after before (command_of c rows)
after_back before (posted_rows n) rows = refl
after_back before (committed_to c) rows = refl
after_back before (policy_set p) rows = refl
after_back before (post_withdrawn n) rows = refl
after_back before (purchase_added a) rows = refl

pub refuses_back : (before : List CommitmentValue) (c : ContentValue) (rows : List Charge) → NoneRefuses before (command_of c rows) → NoneRefuses before (command_of c [])
refuses_back before (posted_rows n) rows none = tt
refuses_back before (committed_to c) rows none = tt
refuses_back before (policy_set p) rows none = tt
refuses_back before (post_withdrawn n) rows none = tt
refuses_back before (purchase_added a) rows none = none

pub policy_back : (before : Option PolicyValue) (c : ContentValue) (rows : List Charge) → policy_after before (command_of c []) ≡ policy_after before (command_of c rows)
policy_back before (posted_rows n) rows = refl
policy_back before (committed_to c) rows = refl
policy_back before (policy_set p) rows = refl
policy_back before (post_withdrawn n) rows = refl
policy_back before (purchase_added a) rows = refl
