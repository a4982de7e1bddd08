-- What is accepted, and what the answers to other entries say.
use Rattle.std.proofs.Common.{◌≡◌, ◌≢◌, ◌+◌, ◌≤◌, ◌<◌, ◌||◌, ◌&&◌, ◌⊎◌, inl, inr, ◌∙◌, ℕ, suc, List, [], ◌∷◌, Option, Some, None, Bool, true, false, nat_le, nat_lt, if◌then◌else◌, length, slice_get, refl, sym, ap, arith}
use Rattle.std.specs.Bool.{Decides}
use Rattle.std.specs.Option.{option_map_or}
use Rattle.std.specs.Str.{bytes_eq}
use Rattle.std.specs.List.{list_any}
use Rattle.std.specs.Prelude.{not, ◌==◌}
use Rattle.std.proofs.lemmas.Bool.{lt-ltb, le-leb, ltb-false, leb-false}
use Rattle.std.proofs.lemmas.List.Folds.{list_any_at}
use Rattle.std.proofs.lemmas.Option.{slice_get_within, get_or_from_slice_get}
use Rattle.std.proofs.lemmas.Bool.Decides.{nat_tests, Decides-eqb}
use Rattle.std.proofs.lemmas.Slice.Eq.{bytes_eq-Decides}
use Rattle.fw_charge.specs.Charge.{Charge, DiscountText}
use Rattle.fw_money.specs.Amount.{most_nanos}
use Rattle.fw_terms.specs.Commitment.{PurchaseValue, CommitmentValue, cost_of, most_purchases, takes_purchase}
use Rattle.fw_terms.specs.Added.{AddedValue}
use Rattle.fw_terms.proofs.Adding.{has_room}
use Rattle.fw_terms.specs.Policy.{PolicyValue}
use Rattle.fw_entry.specs.Entry.{CommandValue, EntryValue}
use Rattle.fw_entry.specs.Entry.CommandValue.{post, commit, set_policy, withdraw, add_purchase}
use Rattle.fw_snapshot.specs.History.{withdraws, is_withdrawn, rows_posted, rows_of, committed_of, commitments_of, entries_from}
use Rattle.fw_snapshot.specs.Ids.{HasId, NoRowHasIdOf, NoneHasId, NoneHasIdOf}
use Rattle.fw_snapshot.specs.Withdrawals.{HasPost, HasWithdrawal, NoneWithdraws}
use Rattle.fw_snapshot.specs.Judging.{judged, IsLegal, command_conflict, rows_conflict, commitment_conflict, purchase_conflict, is_post, has_post, withdrawal_conflict, refuses, verdict_on, has_id, carries, is_registered, has_registered_id, carries_any, most_rows, most_commitments}
use Rattle.fw_snapshot.specs.declared.verdict.Conflict.{Conflict}
use Rattle.fw_snapshot.specs.declared.verdict.Conflict.TheVariants as conflict
use Rattle.fw_snapshot.specs.declared.verdict.Verdict.{Verdict}
use Rattle.fw_snapshot.specs.declared.verdict.Verdict.TheVariants as verdict
use Rattle.fw_snapshot.proofs.AddingFacts.{accepted_purchase}
use Rattle.fw_snapshot.proofs.IdFacts.{apart_ids, new_among, unused_by_rows, own_id, registered_at}
use Rattle.fw_snapshot.proofs.LegalFacts.{accepted_command, new_id, no_registered_id, unused_id}
use Rattle.fw_snapshot.proofs.WithdrawnFacts.{withdraws_it, withdraws_post}

-- texts and ids that differ
fails : {P : Type 0} (r : Bool) → Decides r P → (P → ⊥) → r ≡ false
fails true decides none = absurd (none (decides.0 refl))
fails false decides none = refl

different : (a b : List ℕ) → a ≢ b → bytes_eq a b ≡ false
different a b h = fails (bytes_eq a b) (bytes_eq-Decides a b) h

neither : (a b : Bool) → a ≡ false → b ≡ false → (a || b) ≡ false
neither true b h k = h
neither false b h k = k

not_registered : (id : List ℕ) (cs : List CommitmentValue) → ((place : ℕ) (c : CommitmentValue) → slice_get cs place ≡ Some c → id ≢ c.id) → is_registered id cs ≡ false
unfolding is_registered
not_registered id [] h = refl
not_registered id (c ∷ cs) h = neither (bytes_eq id c.id) (is_registered id cs) (different id c.id (h 0 c refl)) (not_registered id cs (λ place. h (suc place)))

no_discount : (cs : List CommitmentValue) (discount : Option DiscountText) → ((j : ℕ) (d : DiscountText) (c : CommitmentValue) → discount ≡ Some d → slice_get cs j ≡ Some c → d.id ≢ c.id)
    → option_map_or (λ d. is_registered d.id cs) discount false ≡ false
no_discount cs None h = refl
no_discount cs (Some d) h = not_registered d.id cs (λ j c at. h j d c refl at)

none_carried : (rows : List Charge) (cs : List CommitmentValue) → NoRowHasIdOf rows cs → carries_any rows cs ≡ false
unfolding carries_any
none_carried [] cs h = refl
none_carried (row ∷ rows) cs h =
    neither (has_registered_id cs row) (carries_any rows cs) (no_discount cs row.discount (λ j d c at. h 0 j row d c refl at)) (none_carried rows cs (λ i. h (suc i)))

other_discount : (id : List ℕ) (discount : Option DiscountText) → ((d : DiscountText) → discount ≡ Some d → d.id ≢ id) → option_map_or (λ d. bytes_eq id d.id) discount false ≡ false
other_discount id None h = refl
other_discount id (Some d) h = different id d.id (λ same. h d refl (sym same))

not_carried : (rows : List Charge) (c : CommitmentValue) → NoRowHasIdOf rows (c ∷ []) → carries c.id rows ≡ false
unfolding carries
not_carried [] c h = refl
not_carried (row ∷ rows) c h =
    neither (has_id c.id row) (carries c.id rows) (other_discount c.id row.discount (λ d at. h 0 0 row d c refl at refl)) (not_carried rows c (λ i. h (suc i)))

new_commitment : (cs : List CommitmentValue) (c : CommitmentValue) → NoneHasIdOf cs c → is_registered c.id cs ≡ false
new_commitment cs c h = not_registered c.id cs (λ place other at same. h place other at (sym same))

-- the next entry of its origin gets the verdict on its command
next_verdict : (low high : Bool) (m n : ℕ) (rest : Verdict) → low ≡ false → high ≡ false → (if low then verdict.Already m else (if high then verdict.Gap n else rest)) ≡ rest
next_verdict true high m n rest h k = absurd (cc)
next_verdict false true m n rest h k = absurd (cc)
next_verdict false false m n rest h k = refl

next_judged : (es : List EntryValue) (e : EntryValue) → e.seq ≡ entries_from e.origin es + 1 → judged es e ≡ verdict_on (command_conflict es e.origin e.command)
unfolding judged
next_judged es e next =
    let low : nat_le e.seq (entries_from e.origin es) ≡ false = grind (arith, nat_tests) in
    let high : nat_lt (entries_from e.origin es + 1) e.seq ≡ false = grind (arith, nat_tests) in
    next_verdict (nat_le e.seq (entries_from e.origin es)) (nat_lt (entries_from e.origin es + 1) e.seq) _ _ _ low high

accepted_as : (es : List EntryValue) (e : EntryValue) (c : CommandValue) → e.seq ≡ entries_from e.origin es + 1 → e.command ≡ c → command_conflict es e.origin c ≡ None → judged es e ≡ verdict.Accept
accepted_as es e c next is none = next_judged es e next ∙ ap verdict_on (ap (command_conflict es e.origin) is ∙ none)

no_conflict_of_two : (a b : Bool) (u v : Conflict) → a ≡ false → b ≡ false → (if a then Some u else (if b then Some v else None)) ≡ None
no_conflict_of_two true b u v h k = absurd (cc)
no_conflict_of_two false true u v h k = absurd (cc)
no_conflict_of_two false false u v h k = refl

no_conflict_of_three : (a b c : Bool) (u v w : Conflict) → a ≡ false → b ≡ false → c ≡ false → (if a then Some u else (if b then Some v else (if c then Some w else None))) ≡ None
no_conflict_of_three true b c u v w h k l = absurd (cc)
no_conflict_of_three false b c u v w h k l = no_conflict_of_two b c v w k l

pub post_accepted : (es : List EntryValue) (e : EntryValue) (rows : List Charge) → e.seq ≡ entries_from e.origin es + 1 → e.command ≡ post rows
    → length (rows_posted es) + length rows ≤ most_rows → NoRowHasIdOf rows (committed_of es) → judged es e ≡ verdict.Accept
unfolding command_conflict rows_conflict
post_accepted es e rows next is room none =
    let fits : nat_lt most_rows (length (rows_posted es) + length rows) ≡ false = grind (arith, nat_tests) in
    accepted_as es e (post rows) next is (no_conflict_of_two _ _ _ _ fits (none_carried rows (committed_of es) none))

pub commit_accepted : (es : List EntryValue) (e : EntryValue) (c : CommitmentValue) → e.seq ≡ entries_from e.origin es + 1 → e.command ≡ commit c
    → length (committed_of es) < most_commitments → NoneHasIdOf (committed_of es) c → NoRowHasIdOf (rows_of es) (c ∷ []) → judged es e ≡ verdict.Accept
unfolding command_conflict commitment_conflict
commit_accepted es e c next is room new unused =
    let fits : nat_le most_commitments (length (committed_of es)) ≡ false = grind (arith, nat_tests) in
    accepted_as es e (commit c) next is (no_conflict_of_three _ _ _ _ _ _ (new_commitment (committed_of es) c new) (not_carried (rows_of es) c unused) fits)

pub policy_accepted : (es : List EntryValue) (e : EntryValue) (p : PolicyValue) → e.seq ≡ entries_from e.origin es + 1 → e.command ≡ set_policy p → judged es e ≡ verdict.Accept
unfolding command_conflict
policy_accepted es e p next is = accepted_as es e (set_policy p) next is refl

-- gaps
gap_verdict : (low high : Bool) (m n : ℕ) (rest : Verdict) → low ≡ false → high ≡ true → (if low then verdict.Already m else (if high then verdict.Gap n else rest)) ≡ verdict.Gap n
gap_verdict true high m n rest h k = absurd (cc)
gap_verdict false true m n rest h k = refl
gap_verdict false false m n rest h k = absurd (cc)

pub gap_judged : (es : List EntryValue) (e : EntryValue) → entries_from e.origin es + 1 < e.seq → judged es e ≡ verdict.Gap (entries_from e.origin es + 1)
unfolding judged
gap_judged es e skips =
    let low : nat_le e.seq (entries_from e.origin es) ≡ false = grind (arith, nat_tests) in
    let high : nat_lt (entries_from e.origin es + 1) e.seq ≡ true = grind (arith, nat_tests) in
    gap_verdict (nat_le e.seq (entries_from e.origin es)) (nat_lt (entries_from e.origin es + 1) e.seq) _ _ _ low high

gap_parts : (low high : Bool) (m n expected : ℕ) (why : Option Conflict) → (if low then verdict.Already m else (if high then verdict.Gap n else verdict_on why)) ≡ verdict.Gap expected → (high ≡ true) × (expected ≡ n)
gap_parts true high m n expected why h = absurd (cc)
gap_parts false true m n expected why h = (refl, cc)
gap_parts false false m n expected None h = absurd (cc)
gap_parts false false m n expected (Some found) h = absurd (cc)

pub gap_only : (es : List EntryValue) (e : EntryValue) (expected : ℕ) → judged es e ≡ verdict.Gap expected → (expected ≡ entries_from e.origin es + 1) × (expected < e.seq)
unfolding judged
gap_only es e expected h =
    let parts = gap_parts (nat_le e.seq (entries_from e.origin es)) (nat_lt (entries_from e.origin es + 1) e.seq) _ _ expected _ h in
    let skips : nat_lt (entries_from e.origin es + 1) e.seq ≡ true = parts.0 in
    let same : expected ≡ entries_from e.origin es + 1 = parts.1 in
    (same, grind (arith, nat_tests))

-- refusals
refused_parts : (low high : Bool) (m n : ℕ) (why : Conflict) (found : Option Conflict) → (if low then verdict.Already m else (if high then verdict.Gap n else verdict_on found)) ≡ verdict.Refused why
    → (low ≡ false) × (high ≡ false) × (found ≡ Some why)
refused_parts true high m n why found h = absurd (cc)
refused_parts false true m n why found h = absurd (cc)
refused_parts false false m n why None h = absurd (cc)
refused_parts false false m n why (Some found) h = (refl, refl, cc)

refused_for : (es : List EntryValue) (e : EntryValue) (why : Conflict) → judged es e ≡ verdict.Refused why → (e.seq ≡ entries_from e.origin es + 1) × (command_conflict es e.origin e.command ≡ Some why)
unfolding judged
refused_for es e why h =
    let parts = refused_parts (nat_le e.seq (entries_from e.origin es)) (nat_lt (entries_from e.origin es + 1) e.seq) _ _ why _ h in
    let low : nat_le e.seq (entries_from e.origin es) ≡ false = parts.0 in
    let high : nat_lt (entries_from e.origin es + 1) e.seq ≡ false = parts.1 in
    (grind (arith, nat_tests), parts.2)

pub refused_next : (es : List EntryValue) (e : EntryValue) (why : Conflict) → judged es e ≡ verdict.Refused why → e.seq ≡ entries_from e.origin es + 1
refused_next es e why h = (refused_for es e why h).0

full_of : (es : List EntryValue) (origin : List ℕ) (c : CommandValue) → command_conflict es origin c ≡ Some conflict.Full → (rows : List Charge) × (c ≡ post rows) × (most_rows < length (rows_posted es) + length rows)
unfolding command_conflict rows_conflict commitment_conflict withdrawal_conflict purchase_conflict
full_of es origin (post rows) h =
    let test : nat_lt most_rows (length (rows_posted es) + length rows) ≡ true = grind (arith, h) in
    (rows, refl, grind (arith, nat_tests))
full_of es origin (commit c) h = absurd (grind (arith, h))
full_of es origin (set_policy p) h = absurd (cc)
full_of es origin (withdraw n) h = absurd (grind (arith, h))
full_of es origin (add_purchase a) h = absurd (grind (arith, h))

double_of : (es : List EntryValue) (origin : List ℕ) (c : CommandValue) → command_conflict es origin c ≡ Some conflict.DoubleId → (d : CommitmentValue) × (c ≡ commit d) × (is_registered d.id (committed_of es) ≡ true)
unfolding command_conflict rows_conflict commitment_conflict withdrawal_conflict purchase_conflict
double_of es origin (post rows) h = absurd (grind (arith, h))
double_of es origin (commit c) h = (c, refl, grind (arith, h))
double_of es origin (set_policy p) h = absurd (cc)
double_of es origin (withdraw n) h = absurd (grind (arith, h))
double_of es origin (add_purchase a) h = absurd (grind (arith, h))

in_use_of : (es : List EntryValue) (origin : List ℕ) (c : CommandValue) → command_conflict es origin c ≡ Some conflict.IdInUse
    → (d : CommitmentValue) × (c ≡ commit d) × (is_registered d.id (committed_of es) ≡ false) × (carries d.id (rows_of es) ≡ true)
unfolding command_conflict rows_conflict commitment_conflict withdrawal_conflict purchase_conflict
in_use_of es origin (post rows) h = absurd (grind (arith, h))
in_use_of es origin (commit c) h = (c, refl, grind (arith, h), grind (arith, h))
in_use_of es origin (set_policy p) h = absurd (cc)
in_use_of es origin (withdraw n) h = absurd (grind (arith, h))
in_use_of es origin (add_purchase a) h = absurd (grind (arith, h))

own_of : (es : List EntryValue) (origin : List ℕ) (c : CommandValue) → command_conflict es origin c ≡ Some conflict.OwnCommitment
    → (rows : List Charge) × (c ≡ post rows) × (length (rows_posted es) + length rows ≤ most_rows) × (carries_any rows (committed_of es) ≡ true)
unfolding command_conflict rows_conflict commitment_conflict withdrawal_conflict purchase_conflict
own_of es origin (post rows) h =
    let fits : nat_lt most_rows (length (rows_posted es) + length rows) ≡ false = grind (arith, h) in
    (rows, refl, grind (arith, nat_tests), grind (arith, h))
own_of es origin (commit c) h = absurd (grind (arith, h))
own_of es origin (set_policy p) h = absurd (cc)
own_of es origin (withdraw n) h = absurd (grind (arith, h))
own_of es origin (add_purchase a) h = absurd (grind (arith, h))

too_many_of : (es : List EntryValue) (origin : List ℕ) (c : CommandValue) → command_conflict es origin c ≡ Some conflict.TooManyCommitments
    → (d : CommitmentValue) × (c ≡ commit d) × (is_registered d.id (committed_of es) ≡ false) × (carries d.id (rows_of es) ≡ false)
    × (most_commitments ≤ length (committed_of es))
unfolding command_conflict rows_conflict commitment_conflict withdrawal_conflict purchase_conflict
too_many_of es origin (post rows) h = absurd (grind (arith, h))
too_many_of es origin (commit c) h =
    let test : nat_le most_commitments (length (committed_of es)) ≡ true = grind (arith, h) in
    (c, refl, grind (arith, h), grind (arith, h), grind (arith, nat_tests))
too_many_of es origin (set_policy p) h = absurd (cc)
too_many_of es origin (withdraw n) h = absurd (grind (arith, h))
too_many_of es origin (add_purchase a) h = absurd (grind (arith, h))

unlike : (b : Bool) → b ≡ true → b ≡ false → ⊥
unlike b h k = absurd (cc)

pub refused_full : (es : List EntryValue) (e : EntryValue) → judged es e ≡ verdict.Refused conflict.Full → (rows : List Charge) × (e.command ≡ post rows) × (most_rows < length (rows_posted es) + length rows)
refused_full es e h = full_of es e.origin e.command (refused_for es e conflict.Full h).1

pub refused_double : (es : List EntryValue) (e : EntryValue) → judged es e ≡ verdict.Refused conflict.DoubleId → (c : CommitmentValue) × (e.command ≡ commit c) × (NoneHasIdOf (committed_of es) c → ⊥)
refused_double es e h =
    let found = double_of es e.origin e.command (refused_for es e conflict.DoubleId h).1 in
    (found.0, found.1, λ none. unlike (is_registered found.0.id (committed_of es)) found.2 (new_commitment (committed_of es) found.0 none))

pub refused_in_use : (es : List EntryValue) (e : EntryValue) → judged es e ≡ verdict.Refused conflict.IdInUse
    → (c : CommitmentValue) × (e.command ≡ commit c) × NoneHasIdOf (committed_of es) c × (NoRowHasIdOf (rows_of es) (c ∷ []) → ⊥)
refused_in_use es e h =
    let found = in_use_of es e.origin e.command (refused_for es e conflict.IdInUse h).1 in
    (found.0, found.1, new_among (committed_of es) found.0 found.2, λ none. unlike (carries found.0.id (rows_of es)) found.3 (not_carried (rows_of es) found.0 none))

pub refused_own : (es : List EntryValue) (e : EntryValue) → judged es e ≡ verdict.Refused conflict.OwnCommitment
    → (rows : List Charge) × (e.command ≡ post rows) × (length (rows_posted es) + length rows ≤ most_rows) × (NoRowHasIdOf rows (committed_of es) → ⊥)
refused_own es e h =
    let found = own_of es e.origin e.command (refused_for es e conflict.OwnCommitment h).1 in
    (found.0, found.1, found.2, λ none. unlike (carries_any found.0 (committed_of es)) found.3 (none_carried found.0 (committed_of es) none))

pub refused_too_many : (es : List EntryValue) (e : EntryValue) → judged es e ≡ verdict.Refused conflict.TooManyCommitments
    → (c : CommitmentValue) × (e.command ≡ commit c) × NoneHasIdOf (committed_of es) c × NoRowHasIdOf (rows_of es) (c ∷ []) × (most_commitments ≤ length (committed_of es))
refused_too_many es e h =
    let found = too_many_of es e.origin e.command (refused_for es e conflict.TooManyCommitments h).1 in
    (found.0, found.1, new_among (committed_of es) found.0 found.2, unused_by_rows (rows_of es) found.0 found.3, found.4)

-- what is accepted breaks no rule
post_keeps : (es : List EntryValue) (origin : List ℕ) (rows : List Charge) → command_conflict es origin (post rows) ≡ None → length (rows_posted es) + length rows ≤ most_rows
unfolding command_conflict rows_conflict
post_keeps es origin rows h =
    let fits : nat_lt most_rows (length (rows_posted es) + length rows) ≡ false = grind (arith, h) in
    grind (arith, nat_tests)

commit_keeps : (es : List EntryValue) (origin : List ℕ) (c : CommitmentValue) → command_conflict es origin (commit c) ≡ None → length (committed_of es) < most_commitments
unfolding command_conflict commitment_conflict
commit_keeps es origin c h =
    let fits : nat_le most_commitments (length (committed_of es)) ≡ false = grind (arith, h) in
    grind (arith, nat_tests)

accepted_of_command : (es : List EntryValue) (e : EntryValue) (c : CommandValue) → judged es e ≡ verdict.Accept → e.command ≡ c → command_conflict es e.origin c ≡ None
accepted_of_command es e c h is = ap (command_conflict es e.origin) (sym is) ∙ accepted_command es e h

pub accepted_post : (es : List EntryValue) (e : EntryValue) (rows : List Charge) → judged es e ≡ verdict.Accept → e.command ≡ post rows
    → (length (rows_posted es) + length rows ≤ most_rows) × NoRowHasIdOf rows (committed_of es)
accepted_post es e rows h is =
    let none = accepted_of_command es e (post rows) h is in
    (post_keeps es e.origin rows none, apart_ids rows (committed_of es) (no_registered_id es e.origin rows none))

pub accepted_commit : (es : List EntryValue) (e : EntryValue) (c : CommitmentValue) → judged es e ≡ verdict.Accept → e.command ≡ commit c
    → (length (committed_of es) < most_commitments) × NoneHasIdOf (committed_of es) c × NoRowHasIdOf (rows_of es) (c ∷ [])
accepted_commit es e c h is =
    let none = accepted_of_command es e (commit c) h is in
    (commit_keeps es e.origin c none, new_among (committed_of es) c (new_id es e.origin c none), unused_by_rows (rows_of es) c (unused_id es e.origin c none))

-- ---- a purchase that is added

-- an element that passes a test, where one does
found_by : {A : Type 0} (p : A → Bool) (x : A) (xs : List A) (b : Bool) → p x ≡ b → list_any p (x ∷ xs) ≡ true → (list_any p xs ≡ true → (place : ℕ) × (y : A) × (slice_get xs place ≡ Some y) × (p y ≡ true))
    → (place : ℕ) × (y : A) × (slice_get (x ∷ xs) place ≡ Some y) × (p y ≡ true)
found_by p x xs true is h later = (0, x, refl, is)
found_by p x xs false is h later =
    let same : list_any p (x ∷ xs) ≡ list_any p xs = ap (λ b. b || list_any p xs) is in
    let rest = later (sym same ∙ h) in
    (suc rest.0, rest.1, rest.2, rest.3)

found : {A : Type 0} (p : A → Bool) (xs : List A) → list_any p xs ≡ true → (place : ℕ) × (x : A) × (slice_get xs place ≡ Some x) × (p x ≡ true)
found p [] h = absurd (cc)
found p (x ∷ xs) h = found_by p x xs (p x) refl h (λ rest. found p xs rest)

both : (a b : Bool) → (a && b) ≡ true → (a ≡ true) × (b ≡ true)
both true b h = (refl, h)
both false b h = absurd (cc)

is_false : (b : Bool) → not b ≡ true → b ≡ false
is_false true h = absurd (cc)
is_false false h = refl

has_id_of : (cs : List CommitmentValue) (id : List ℕ) → is_registered id cs ≡ true → HasId cs id
unfolding is_registered
has_id_of cs id h =
    let one = found (λ c. bytes_eq id c.id) cs h in
    record { place = one.0; commitment = one.1; stands = one.2; same = (bytes_eq-Decides id one.1.id).0 one.3 }

-- how many purchases there are, and what they cost, where one more can be had
takes_from : (c : CommitmentValue) (p : PurchaseValue) → length c.purchases < most_purchases → cost_of c.purchases + p.billed ≤ most_nanos → takes_purchase c p ≡ true
takes_from c p few cost = rw (lt-ltb _ _ few, le-leb _ _ cost) refl

refused_by : (few cost : Bool) → (few && cost) ≡ false → (few ≡ false) ⊎ (cost ≡ false)
refused_by true cost h = inr h
refused_by false cost h = inl refl

no_room : (c : CommitmentValue) (p : PurchaseValue) → takes_purchase c p ≡ false → (most_purchases ≤ length c.purchases) ⊎ (most_nanos < cost_of c.purchases + p.billed)
no_room c p h = by (refused_by (nat_lt (length c.purchases) most_purchases) (nat_le (cost_of c.purchases + p.billed) most_nanos) h)
  where
    by : (nat_lt (length c.purchases) most_purchases ≡ false) ⊎ (nat_le (cost_of c.purchases + p.billed) most_nanos ≡ false) → (most_purchases ≤ length c.purchases) ⊎ (most_nanos < cost_of c.purchases + p.billed)
    by (inl e) = inl (ltb-false _ _ e)
    by (inr e) = inr (leb-false _ _ e)

-- a commitment that has the id of a purchase can have it, where none refuses it
takes_it : (cs : List CommitmentValue) (a : AddedValue) (has : HasId cs a.id) → list_any (refuses a) cs ≡ false → takes_purchase has.commitment a.purchase ≡ true
takes_it cs a has none = by (takes_purchase has.commitment a.purchase) refl
  where
    by : (t : Bool) → takes_purchase has.commitment a.purchase ≡ t → takes_purchase has.commitment a.purchase ≡ true
    by true e = e
    by false e =
        let same : bytes_eq a.id has.commitment.id ≡ true = (bytes_eq-Decides a.id has.commitment.id).1 has.same in
        let refused : refuses a has.commitment ≡ true = rw (same, e) refl in
        let read = get_or_from_slice_get cs has.place has.commitment has.commitment has.stands in
        absurd (unlike (list_any (refuses a) cs) (list_any_at (refuses a) cs has.place has.commitment (slice_get_within cs has.place has.commitment has.stands) (ap (refuses a) read ∙ refused)) none)

pub accepted_added : (es : List EntryValue) (e : EntryValue) (a : AddedValue) → judged es e ≡ verdict.Accept → e.command ≡ add_purchase a
    → (has : HasId (commitments_of es) a.id) × (length has.commitment.purchases < most_purchases) × (cost_of has.commitment.purchases + a.purchase.billed ≤ most_nanos)
accepted_added es e a h is =
    let parts = accepted_purchase es e.origin a (accepted_of_command es e (add_purchase a) h is) in
    let has = has_id_of (commitments_of es) a.id parts.0 in
    let room = has_room has.commitment a.purchase (takes_it (commitments_of es) a has parts.1) in
    (has, room.few, room.cost)

-- where ids differ, none refuses a purchase that its commitment can have
none_else : (es : List EntryValue) (a : AddedValue) → IsLegal es → (has : HasId (commitments_of es) a.id) → takes_purchase has.commitment a.purchase ≡ true → list_any (refuses a) (commitments_of es) ≡ false
none_else es a legal has takes = by (list_any (refuses a) (commitments_of es)) refl
  where
    by : (t : Bool) → list_any (refuses a) (commitments_of es) ≡ t → list_any (refuses a) (commitments_of es) ≡ false
    by false e = e
    by true e =
        let one = found (refuses a) (commitments_of es) e in
        let parts = both (bytes_eq a.id one.1.id) (not (takes_purchase one.1 a.purchase)) one.3 in
        let same : has.commitment.id ≡ one.1.id = sym has.same ∙ (bytes_eq-Decides a.id one.1.id).0 parts.0 in
        let place = own_id es legal has.place one.0 has.commitment one.1 has.stands one.2 same in
        let alike : Some has.commitment ≡ Some one.1 = sym has.stands ∙ ap (slice_get (commitments_of es)) place ∙ one.2 in
        let is : has.commitment ≡ one.1 = cc in
        absurd (unlike (takes_purchase has.commitment a.purchase) takes (ap (λ c. takes_purchase c a.purchase) is ∙ is_false (takes_purchase one.1 a.purchase) parts.1))

no_conflict_there : (there refused : Bool) (u v : Conflict) → there ≡ true → refused ≡ false → (if there then (if refused then Some u else None) else Some v) ≡ None
no_conflict_there true false u v h k = refl
no_conflict_there true true u v h k = absurd (cc)
no_conflict_there false refused u v h k = absurd (cc)

pub added_accepted : (es : List EntryValue) (e : EntryValue) (a : AddedValue) → IsLegal es → e.seq ≡ entries_from e.origin es + 1 → e.command ≡ add_purchase a
    → (has : HasId (commitments_of es) a.id) → length has.commitment.purchases < most_purchases → cost_of has.commitment.purchases + a.purchase.billed ≤ most_nanos → judged es e ≡ verdict.Accept
unfolding command_conflict purchase_conflict
added_accepted es e a legal next is has few cost =
    let there = registered_at a.id (commitments_of es) has.place has.commitment has.stands has.same in
    accepted_as es e (add_purchase a) next is (no_conflict_there _ _ _ _ there (none_else es a legal has (takes_from has.commitment a.purchase few cost)))

purchase_says : (there refused : Bool) (why : Conflict) → (if there then (if refused then Some conflict.PurchaseLimit else None) else Some conflict.NoSuchCommitment) ≡ Some why
    → ((why ≡ conflict.NoSuchCommitment) × (there ≡ false)) ⊎ ((why ≡ conflict.PurchaseLimit) × (there ≡ true) × (refused ≡ true))
purchase_says true true why h = inr (cc, refl, refl)
purchase_says true false why h = absurd (cc)
purchase_says false refused why h = inl (cc, refl)

no_such_of : (es : List EntryValue) (origin : List ℕ) (c : CommandValue) → command_conflict es origin c ≡ Some conflict.NoSuchCommitment → (a : AddedValue) × (c ≡ add_purchase a) × (is_registered a.id (commitments_of es) ≡ false)
unfolding command_conflict rows_conflict commitment_conflict withdrawal_conflict purchase_conflict
no_such_of es origin (post rows) h = absurd (grind (arith, h))
no_such_of es origin (commit c) h = absurd (grind (arith, h))
no_such_of es origin (set_policy p) h = absurd (cc)
no_such_of es origin (withdraw n) h = absurd (grind (arith, h))
no_such_of es origin (add_purchase a) h = (a, refl, by (purchase_says (is_registered a.id (commitments_of es)) (list_any (refuses a) (commitments_of es)) conflict.NoSuchCommitment h))
  where
    by : ((conflict.NoSuchCommitment ≡ conflict.NoSuchCommitment) × (is_registered a.id (commitments_of es) ≡ false)) ⊎ ((conflict.NoSuchCommitment ≡ conflict.PurchaseLimit) × (is_registered a.id (commitments_of es) ≡ true) × (list_any (refuses a) (commitments_of es) ≡ true))
        → is_registered a.id (commitments_of es) ≡ false
    by (inl k) = k.1
    by (inr k) = let wrong = k.0 in absurd (cc)

limit_of : (es : List EntryValue) (origin : List ℕ) (c : CommandValue) → command_conflict es origin c ≡ Some conflict.PurchaseLimit → (a : AddedValue) × (c ≡ add_purchase a) × (list_any (refuses a) (commitments_of es) ≡ true)
unfolding command_conflict rows_conflict commitment_conflict withdrawal_conflict purchase_conflict
limit_of es origin (post rows) h = absurd (grind (arith, h))
limit_of es origin (commit c) h = absurd (grind (arith, h))
limit_of es origin (set_policy p) h = absurd (cc)
limit_of es origin (withdraw n) h = absurd (grind (arith, h))
limit_of es origin (add_purchase a) h = (a, refl, by (purchase_says (is_registered a.id (commitments_of es)) (list_any (refuses a) (commitments_of es)) conflict.PurchaseLimit h))
  where
    by : ((conflict.PurchaseLimit ≡ conflict.NoSuchCommitment) × (is_registered a.id (commitments_of es) ≡ false)) ⊎ ((conflict.PurchaseLimit ≡ conflict.PurchaseLimit) × (is_registered a.id (commitments_of es) ≡ true) × (list_any (refuses a) (commitments_of es) ≡ true))
        → list_any (refuses a) (commitments_of es) ≡ true
    by (inl k) = let wrong = k.0 in absurd (cc)
    by (inr k) = k.2

none_has : (id : List ℕ) (cs : List CommitmentValue) → is_registered id cs ≡ false → NoneHasId cs id
none_has id cs none place other at same = unlike (is_registered id cs) (registered_at id cs place other at (sym same)) none

pub refused_no_such : (es : List EntryValue) (e : EntryValue) → judged es e ≡ verdict.Refused conflict.NoSuchCommitment → (a : AddedValue) × (e.command ≡ add_purchase a) × NoneHasId (commitments_of es) a.id
refused_no_such es e h =
    let one = no_such_of es e.origin e.command (refused_for es e conflict.NoSuchCommitment h).1 in
    (one.0, one.1, none_has one.0.id (commitments_of es) one.2)

pub refused_limit : (es : List EntryValue) (e : EntryValue) → judged es e ≡ verdict.Refused conflict.PurchaseLimit
    → (a : AddedValue) × (e.command ≡ add_purchase a) × (has : HasId (commitments_of es) a.id) × ((most_purchases ≤ length has.commitment.purchases) ⊎ (most_nanos < cost_of has.commitment.purchases + a.purchase.billed))
refused_limit es e h =
    let one = limit_of es e.origin e.command (refused_for es e conflict.PurchaseLimit h).1 in
    let a = one.0 in
    let it = found (refuses a) (commitments_of es) one.2 in
    let parts = both (bytes_eq a.id it.1.id) (not (takes_purchase it.1 a.purchase)) it.3 in
    (a, one.1, record { place = it.0; commitment = it.1; stands = it.2; same = (bytes_eq-Decides a.id it.1.id).0 parts.0 }, no_room it.1 a.purchase (is_false (takes_purchase it.1 a.purchase) parts.1))

-- ---- a withdrawal

-- a command that posts rows, and one that withdraws a post
posts_rows : (c : CommandValue) → is_post c ≡ true → (rows : List Charge) × (c ≡ post rows)
posts_rows (post rows) h = (rows, refl)
posts_rows (commit c) h = absurd (cc)
posts_rows (set_policy p) h = absurd (cc)
posts_rows (withdraw n) h = absurd (cc)
posts_rows (add_purchase a) h = absurd (cc)

it_withdraws : (seq : ℕ) (c : CommandValue) → c ≡ withdraw seq → withdraws seq c ≡ true
it_withdraws seq c is = ap (withdraws seq) is ∙ (Decides-eqb seq seq).1 refl

-- the post of a sender and number is there where the test finds it
has_post_of : (es : List EntryValue) (origin : List ℕ) (seq : ℕ) → has_post es origin seq ≡ true → HasPost es origin seq
unfolding has_post
has_post_of es origin seq h =
    let one = found (λ e. bytes_eq origin e.origin && (e.seq == seq && is_post e.command)) es h in
    let sender = both (bytes_eq origin one.1.origin) (one.1.seq == seq && is_post one.1.command) one.3 in
    let rest = both (one.1.seq == seq) (is_post one.1.command) sender.1 in
    let posts = posts_rows one.1.command rest.1 in
    record {
      place = one.0;
      entry = one.1;
      rows = posts.0;
      stands = one.2;
      same_origin = sym ((bytes_eq-Decides origin one.1.origin).0 sender.0);
      same_number = (Decides-eqb one.1.seq seq).0 rest.0;
      posts = posts.1;
    }

post_there : (es : List EntryValue) (origin : List ℕ) (seq : ℕ) → HasPost es origin seq → has_post es origin seq ≡ true
unfolding has_post
post_there es origin seq has =
    let test = λ (e : EntryValue). bytes_eq origin e.origin && (e.seq == seq && is_post e.command) in
    let sender : bytes_eq origin has.entry.origin ≡ true = (bytes_eq-Decides origin has.entry.origin).1 (sym has.same_origin) in
    let number : (has.entry.seq == seq) ≡ true = (Decides-eqb has.entry.seq seq).1 has.same_number in
    let posts : is_post has.entry.command ≡ true = ap is_post has.posts in
    let passes : test has.entry ≡ true = rw (sender, number, posts) refl in
    let read = get_or_from_slice_get es has.place has.entry has.entry has.stands in
    list_any_at test es has.place has.entry (slice_get_within es has.place has.entry has.stands) (ap test read ∙ passes)

has_withdrawal_of : (es : List EntryValue) (origin : List ℕ) (seq : ℕ) → is_withdrawn es origin seq ≡ true → HasWithdrawal es origin seq
unfolding is_withdrawn
has_withdrawal_of es origin seq h =
    let one = found (λ w. bytes_eq origin w.origin && withdraws seq w.command) es h in
    let parts = both (bytes_eq origin one.1.origin) (withdraws seq one.1.command) one.3 in
    record {
      place = one.0;
      entry = one.1;
      stands = one.2;
      same_origin = sym ((bytes_eq-Decides origin one.1.origin).0 parts.0);
      withdraws = withdraws_it seq one.1.command parts.1;
    }

withdrawal_there : (es : List EntryValue) (origin : List ℕ) (seq place : ℕ) (e : EntryValue) → slice_get es place ≡ Some e → e.origin ≡ origin → e.command ≡ withdraw seq → is_withdrawn es origin seq ≡ true
unfolding is_withdrawn
withdrawal_there es origin seq place e at same is =
    let test = λ (w : EntryValue). bytes_eq origin w.origin && withdraws seq w.command in
    let sender : bytes_eq origin e.origin ≡ true = (bytes_eq-Decides origin e.origin).1 (sym same) in
    let it : withdraws seq e.command ≡ true = it_withdraws seq e.command is in
    let passes : test e ≡ true = rw (sender, it) refl in
    let read = get_or_from_slice_get es place e e at in
    list_any_at test es place e (slice_get_within es place e at) (ap test read ∙ passes)

-- none withdraws it where the test finds none
none_withdraws : (es : List EntryValue) (origin : List ℕ) (seq : ℕ) → is_withdrawn es origin seq ≡ false → NoneWithdraws es origin seq
none_withdraws es origin seq none place e at same is = unlike (is_withdrawn es origin seq) (withdrawal_there es origin seq place e at same is) none

pub not_withdrawn : (es : List EntryValue) (origin : List ℕ) (seq : ℕ) → NoneWithdraws es origin seq → is_withdrawn es origin seq ≡ false
not_withdrawn es origin seq none = by (is_withdrawn es origin seq) refl
  where
    by : (t : Bool) → is_withdrawn es origin seq ≡ t → is_withdrawn es origin seq ≡ false
    by false e = e
    by true e =
        let one = has_withdrawal_of es origin seq e in
        absurd (none one.place one.entry one.stands one.same_origin one.withdraws)

pub withdrawal_accepted : (es : List EntryValue) (e : EntryValue) (n : ℕ) → e.seq ≡ entries_from e.origin es + 1 → e.command ≡ withdraw n → HasPost es e.origin n → NoneWithdraws es e.origin n
    → judged es e ≡ verdict.Accept
unfolding command_conflict withdrawal_conflict
withdrawal_accepted es e n next is has none =
    accepted_as es e (withdraw n) next is (no_conflict_there _ _ _ _ (post_there es e.origin n has) (not_withdrawn es e.origin n none))

pub accepted_withdrawal : (es : List EntryValue) (e : EntryValue) (n : ℕ) → judged es e ≡ verdict.Accept → e.command ≡ withdraw n → HasPost es e.origin n × NoneWithdraws es e.origin n
accepted_withdrawal es e n h is =
    let parts = withdraws_post es e.origin n (accepted_of_command es e (withdraw n) h is) in
    (has_post_of es e.origin n parts.0, none_withdraws es e.origin n parts.1)

no_post_of : (es : List EntryValue) (origin : List ℕ) (c : CommandValue) → command_conflict es origin c ≡ Some conflict.NoSuchPost → (n : ℕ) × (c ≡ withdraw n) × (has_post es origin n ≡ false)
unfolding command_conflict rows_conflict commitment_conflict withdrawal_conflict purchase_conflict
no_post_of es origin (post rows) h = absurd (grind (arith, h))
no_post_of es origin (commit c) h = absurd (grind (arith, h))
no_post_of es origin (set_policy p) h = absurd (cc)
no_post_of es origin (withdraw n) h = (n, refl, grind (arith, h))
no_post_of es origin (add_purchase a) h = absurd (grind (arith, h))

gone_of : (es : List EntryValue) (origin : List ℕ) (c : CommandValue) → command_conflict es origin c ≡ Some conflict.Withdrawn
    → (n : ℕ) × (c ≡ withdraw n) × (has_post es origin n ≡ true) × (is_withdrawn es origin n ≡ true)
unfolding command_conflict rows_conflict commitment_conflict withdrawal_conflict purchase_conflict
gone_of es origin (post rows) h = absurd (grind (arith, h))
gone_of es origin (commit c) h = absurd (grind (arith, h))
gone_of es origin (set_policy p) h = absurd (cc)
gone_of es origin (withdraw n) h = (n, refl, grind (arith, h), grind (arith, h))
gone_of es origin (add_purchase a) h = absurd (grind (arith, h))

pub refused_no_post : (es : List EntryValue) (e : EntryValue) → judged es e ≡ verdict.Refused conflict.NoSuchPost → (n : ℕ) × (e.command ≡ withdraw n) × (HasPost es e.origin n → ⊥)
refused_no_post es e h =
    let one = no_post_of es e.origin e.command (refused_for es e conflict.NoSuchPost h).1 in
    (one.0, one.1, λ has. unlike (has_post es e.origin one.0) (post_there es e.origin one.0 has) one.2)

pub refused_withdrawn : (es : List EntryValue) (e : EntryValue) → judged es e ≡ verdict.Refused conflict.Withdrawn
    → (n : ℕ) × (e.command ≡ withdraw n) × HasPost es e.origin n × HasWithdrawal es e.origin n
refused_withdrawn es e h =
    let one = gone_of es e.origin e.command (refused_for es e conflict.Withdrawn h).1 in
    (one.0, one.1, has_post_of es e.origin one.0 one.2, has_withdrawal_of es e.origin one.0 one.3)
