-- What is known of an entry that is accepted, and of legal lists of entries.
use Rattle.std.proofs.Common.{◌≡◌, ◌+◌, ◌≤◌, ◌<◌, ◌⊎◌, ℕ, zero, suc, List, [], ◌∷◌, ◌++◌, Option, Some, None, true, false, nat_lt, nat_le, length, take, drop, slice_get, refl, sym, ap, ◌∙◌, arith, length-append}
use Rattle.std.specs.Str.{bytes_eq}
use Rattle.std.proofs.lemmas.List.{append-nil, append_assoc, take-append-drop, take_more}
use Rattle.std.proofs.Math.Seq.{take-nil}
use Rattle.std.proofs.lemmas.Option.{slice_get_within, get_or_from_slice_get}
use Rattle.std.proofs.lemmas.Slice.Eq.{bytes_eq-Decides}
use Rattle.std.proofs.lemmas.Bool.Decides.{nat_tests}
use Rattle.fw_charge.specs.Charge.{Charge}
use Rattle.fw_terms.specs.Commitment.{CommitmentValue}
use Rattle.fw_entry.specs.Entry.{CommandValue, EntryValue}
use Rattle.fw_entry.specs.Entry.CommandValue.{post, commit, set_policy, withdraw, add_purchase}
use Rattle.fw_snapshot.specs.History.{posted, committed, rows_posted, rows_of, committed_of, entries_from}
use Rattle.fw_snapshot.specs.Judging.{judged, IsLegal, IsLegalAfter, command_conflict, rows_conflict, commitment_conflict, most_rows, most_commitments, verdict_on, carries, carries_any, is_registered}
use Rattle.fw_snapshot.specs.declared.verdict.Conflict.{Conflict}
use Rattle.fw_snapshot.specs.declared.verdict.Verdict.TheVariants as verdict
use Rattle.fw_snapshot.proofs.EntryFacts.{rows_posted_more, committed_of_more, entries_from_more, entries_from_grows}

-- nothing stands against the command of an entry that is accepted
none_stands : (why : Option Conflict) → verdict_on why ≡ verdict.Accept → why ≡ None
none_stands None h = refl
none_stands (Some found) h = absurd (cc)

-- an accepted entry has the next number of its origin
pub accepted_number : (es : List EntryValue) (e : EntryValue) → judged es e ≡ verdict.Accept → e.seq ≡ entries_from e.origin es + 1
unfolding judged
accepted_number es e h = grind (arith, nat_tests, h)

pub accepted_command : (es : List EntryValue) (e : EntryValue) → judged es e ≡ verdict.Accept → command_conflict es e.origin e.command ≡ None
unfolding judged
accepted_command es e h =
    let judged_so : verdict_on (command_conflict es e.origin e.command) ≡ verdict.Accept = grind (arith, nat_tests, h) in
    none_stands (command_conflict es e.origin e.command) judged_so

at_most : (n m : ℕ) → nat_lt n m ≡ false → m ≤ n
at_most n m h = grind (arith, nat_tests)

below : (n m : ℕ) → nat_le n m ≡ false → m < n
below n m h = grind (arith, nat_tests)

rows_room : (es : List EntryValue) (origin : List ℕ) (c : CommandValue) → command_conflict es origin c ≡ None → length (rows_posted es) ≤ most_rows → length (rows_posted es) + length (posted c) ≤ most_rows
unfolding command_conflict rows_conflict
rows_room es origin (post more) h few =
    let room : nat_lt most_rows (length (rows_posted es) + length more) ≡ false = grind (arith, h) in
    at_most _ _ room
rows_room es origin (commit c) h few = omega arith
rows_room es origin (set_policy p) h few = omega arith
rows_room es origin (withdraw n) h few = omega arith
rows_room es origin (add_purchase a) h few = omega arith

commitments_room : (es : List EntryValue) (origin : List ℕ) (c : CommandValue) → command_conflict es origin c ≡ None → length (committed_of es) ≤ most_commitments → length (committed_of es) + length (committed c) ≤ most_commitments
unfolding command_conflict commitment_conflict
commitments_room es origin (post more) h few = omega arith
commitments_room es origin (commit c) h few =
    let list = committed_of es in
    let full : nat_le most_commitments (length list) ≡ false = grind (arith, h) in
    let room = below most_commitments (length list) full in
    omega arith
commitments_room es origin (set_policy p) h few = omega arith
commitments_room es origin (withdraw n) h few = omega arith
commitments_room es origin (add_purchase a) h few = omega arith

-- the ids of an accepted entry: a commitment's is neither registered nor carried, and rows carry none that is registered
pub new_id : (es : List EntryValue) (origin : List ℕ) (c : CommitmentValue) → command_conflict es origin (commit c) ≡ None → is_registered c.id (committed_of es) ≡ false
unfolding command_conflict commitment_conflict
new_id es origin c h = grind (arith, h)

pub unused_id : (es : List EntryValue) (origin : List ℕ) (c : CommitmentValue) → command_conflict es origin (commit c) ≡ None → carries c.id (rows_of es) ≡ false
unfolding command_conflict commitment_conflict
unused_id es origin c h = grind (arith, h)

pub no_registered_id : (es : List EntryValue) (origin : List ℕ) (more : List Charge) → command_conflict es origin (post more) ≡ None → carries_any more (committed_of es) ≡ false
unfolding command_conflict rows_conflict
no_registered_id es origin more h = grind (arith, h)

-- the rows of an accepted entry fit behind the others
pub accepted_rows : (es : List EntryValue) (e : EntryValue) → judged es e ≡ verdict.Accept → length (rows_posted es) ≤ most_rows → length (rows_posted es) + length (posted e.command) ≤ most_rows
accepted_rows es e h few = rows_room es e.origin e.command (accepted_command es e h) few

accepted_commitments : (es : List EntryValue) (e : EntryValue) → judged es e ≡ verdict.Accept → length (committed_of es) ≤ most_commitments → length (committed_of es) + length (committed e.command) ≤ most_commitments
accepted_commitments es e h few = commitments_room es e.origin e.command (accepted_command es e h) few

-- what stays so with each entry that is accepted holds of each legal list
pub legal_kept : (P : List EntryValue → Type 0) → ((es : List EntryValue) (e : EntryValue) → P es → judged es e ≡ verdict.Accept → P (es ++ e ∷ [])) → (first es : List EntryValue) → P first → IsLegalAfter first es → P (first ++ es)
unfolding IsLegalAfter
legal_kept P step first [] holds legal = rw append-nil holds
legal_kept P step first (e ∷ es) holds legal = rw append_assoc at (legal_kept P step (first ++ e ∷ []) es (step first e holds legal.0) legal.1)

-- an accepted entry goes behind a legal list
pub legal_more : (first es : List EntryValue) (e : EntryValue) → IsLegalAfter first es → judged (first ++ es) e ≡ verdict.Accept → IsLegalAfter first (es ++ e ∷ [])
unfolding IsLegalAfter
legal_more first [] e legal h = (rw append-nil at h, tt)
legal_more first (x ∷ es) e legal h = (legal.0, legal_more (first ++ x ∷ []) es e legal.1 (rw append_assoc h))

-- each entry of a legal list is accepted after those before it
legal_at : (first es : List EntryValue) → IsLegalAfter first es → (place : ℕ) (e : EntryValue) → slice_get es place ≡ Some e → judged (first ++ take place es) e ≡ verdict.Accept
unfolding IsLegalAfter
legal_at first [] legal place e h = absurd (cc)
legal_at first (x ∷ es) legal zero e h =
    let same : x ≡ e = cc in
    rw append-nil (rw (← same) legal.0)
legal_at first (x ∷ es) legal (suc place) e h = rw append_assoc at (legal_at (first ++ x ∷ []) es legal.1 place e h)

-- a legal list has few rows and commitments
rows_kept : (es : List EntryValue) (e : EntryValue) → length (rows_posted es) ≤ most_rows → judged es e ≡ verdict.Accept → length (rows_posted (es ++ e ∷ [])) ≤ most_rows
rows_kept es e few h = rw rows_posted_more (rw length-append (accepted_rows es e h few))

commitments_kept : (es : List EntryValue) (e : EntryValue) → length (committed_of es) ≤ most_commitments → judged es e ≡ verdict.Accept → length (committed_of (es ++ e ∷ [])) ≤ most_commitments
commitments_kept es e few h = rw committed_of_more (rw length-append (accepted_commitments es e h few))

pub few_rows : (es : List EntryValue) → IsLegal es → length (rows_posted es) ≤ most_rows
unfolding rows_posted
few_rows es legal = legal_kept (λ es. length (rows_posted es) ≤ most_rows) rows_kept [] es (omega arith) legal

pub few_commitments : (es : List EntryValue) → IsLegal es → length (committed_of es) ≤ most_commitments
unfolding committed_of
few_commitments es legal = legal_kept (λ es. length (committed_of es) ≤ most_commitments) commitments_kept [] es (omega arith) legal

-- each entry has the number that follows those of its origin before it
pub in_turn : (es : List EntryValue) → IsLegal es → (place : ℕ) (e : EntryValue) → slice_get es place ≡ Some e → e.seq ≡ entries_from e.origin (take place es) + 1
in_turn es legal place e h = accepted_number (take place es) e (legal_at [] es legal place e h)

same_origin : (origin : List ℕ) → bytes_eq origin origin ≡ true
same_origin origin = (bytes_eq-Decides origin origin).1 refl

take_within : (es : List EntryValue) (i j : ℕ) → i ≤ j → take i (take j es) ≡ take i es
take_within [] i j h = ap (take i) (take-nil j)
take_within (x ∷ es) zero j h = refl
take_within (x ∷ es) (suc i) zero h = absurd (omega arith)
take_within (x ∷ es) (suc i) (suc j) h = ap (λ xs. x ∷ xs) (take_within es i j (omega arith))

-- an entry counts among those of its origin before any later one
pub counts_before : (es : List EntryValue) (i j : ℕ) (a : EntryValue) → slice_get es i ≡ Some a → i < j → entries_from a.origin (take i es) + 1 ≤ entries_from a.origin (take j es)
counts_before es i j a h before =
    let within : i < length es = slice_get_within es i a h in
    let step = take_more es i a within in
    let read = get_or_from_slice_get es i a a h in
    let next : take (i + 1) es ≡ take i es ++ a ∷ [] = cc in
    let counted = entries_from_more a.origin (take i es) a in
    let one : entries_from a.origin (take i es ++ a ∷ []) ≡ entries_from a.origin (take i es) + 1 = rw same_origin at counted in
    let nested = take_within es (i + 1) j (omega arith) in
    let split = take-append-drop (i + 1) (take j es) in
    let grown = entries_from_grows a.origin (take (i + 1) (take j es)) (drop (i + 1) (take j es)) in
    let all : entries_from a.origin (take (i + 1) (take j es) ++ drop (i + 1) (take j es)) ≡ entries_from a.origin (take j es) = ap (entries_from a.origin) split in
    let front : entries_from a.origin (take (i + 1) (take j es)) ≡ entries_from a.origin (take i es) + 1 = ap (entries_from a.origin) (nested ∙ next) ∙ one in
    omega arith

one_origin_apart : (es : List EntryValue) → IsLegal es → (i j : ℕ) (a b : EntryValue) → slice_get es i ≡ Some a → slice_get es j ≡ Some b → a.origin ≡ b.origin → a.seq ≡ b.seq → i < j → ⊥
one_origin_apart es legal i j a b ha hb origin seq before =
    let first = in_turn es legal i a ha in
    let second = in_turn es legal j b hb in
    let counted = counts_before es i j a ha before in
    let same : entries_from b.origin (take j es) ≡ entries_from a.origin (take j es) = ap (λ o. entries_from o (take j es)) (sym origin) in
    omega arith

which_first : (i j : ℕ) → (i ≡ j) ⊎ ((i < j) ⊎ (j < i))
which_first i j = grind arith

-- a legal list has each entry once
pub once : (es : List EntryValue) → IsLegal es → (i j : ℕ) (a b : EntryValue) → slice_get es i ≡ Some a → slice_get es j ≡ Some b → a.origin ≡ b.origin → a.seq ≡ b.seq → i ≡ j
once es legal i j a b ha hb origin seq =
    let later = one_origin_apart es legal i j a b ha hb origin seq in
    let sooner = one_origin_apart es legal j i b a hb ha (sym origin) (sym seq) in
    grind arith
