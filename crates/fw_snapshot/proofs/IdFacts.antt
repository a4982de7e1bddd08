-- The ids of a legal list: no two commitments have the same, and no row carries one of them.
use Rattle.std.proofs.Common.{◌≡◌, ◌||◌, ◌∙◌, ℕ, zero, suc, List, [], ◌∷◌, ◌++◌, Option, Some, None, Bool, true, false, cond, filter, map, slice_get, refl, sym, ap}
use Rattle.std.specs.Bool.{⊤}
use Rattle.std.specs.Option.{option_map_or}
use Rattle.std.specs.List.{list_any}
use Rattle.std.specs.Str.{bytes_eq}
use Rattle.std.proofs.Math.Bool.{or-false}
use Rattle.std.proofs.lemmas.Bool.Decides.{same_from_decides}
use Rattle.std.proofs.lemmas.List.{append-nil}
use Rattle.std.proofs.lemmas.List.Folds.{list_any-append, list_any_at}
use Rattle.std.proofs.lemmas.Option.{slice_get_within, get_or_from_slice_get}
use Rattle.std.proofs.lemmas.Slice.Eq.{bytes_eq-Decides}
use Rattle.fw_charge.specs.Charge.{Charge, DiscountText}
use Rattle.fw_terms.specs.Commitment.{CommitmentValue}
use Rattle.fw_entry.specs.Entry.{CommandValue, EntryValue}
use Rattle.fw_entry.specs.Entry.CommandValue.{post, commit, set_policy, withdraw, add_purchase}
use Rattle.fw_snapshot.specs.History.{posted, committed, rows_of, committed_of, with_added, commitments_of}
use Rattle.fw_snapshot.specs.Ids.{NoneHasIdOf, NoRowHasIdOf}
use Rattle.fw_snapshot.specs.Judging.{judged, IsLegal, has_id, carries, is_registered, has_registered_id, carries_any, command_conflict}
use Rattle.fw_snapshot.specs.declared.verdict.Verdict.TheVariants as verdict
use Rattle.fw_snapshot.proofs.EntryFacts.{committed_of_more}
use Rattle.fw_snapshot.proofs.CountingFacts.{none_more}
use Rattle.fw_snapshot.proofs.AddedFacts.{carries_same, same_ids}
use Rattle.fw_snapshot.proofs.LegalFacts.{accepted_command, legal_kept, new_id, unused_id, no_registered_id}

-- tests of texts and of lists
same_text : (id : List ℕ) → bytes_eq id id ≡ true
same_text id = (bytes_eq-Decides id id).1 refl

swapped : (a b : List ℕ) → bytes_eq a b ≡ bytes_eq b a
swapped a b =
    same_from_decides (bytes_eq a b) (bytes_eq b a) (bytes_eq-Decides a b)
    (λ e. sym ((bytes_eq-Decides b a).0 e), λ e. (bytes_eq-Decides b a).1 (sym e))

both_false : (a b : Bool) → a ≡ false → b ≡ false → (a || b) ≡ false
both_false true b h k = h
both_false false b h k = k

pub false_parts : (a b : Bool) → (a || b) ≡ false → (a ≡ false) × (b ≡ false)
false_parts true b h = absurd (cc)
false_parts false b h = (refl, h)

left_out : {A : Type 0} (b : Bool) (x : A) (l m : List A) → b ≡ false → l ≡ m → cond b (x ∷ l) l ≡ m
left_out true x l m h e = absurd (cc)
left_out false x l m h e = e

left_in : {A : Type 0} (b : Bool) (x : A) (l m : List A) → b ≡ true → l ≡ m → cond b (x ∷ l) l ≡ x ∷ m
left_in true x l m h e = ap (λ l. x ∷ l) e
left_in false x l m h e = absurd (cc)

-- each commitment has another id than those behind it
abbrev Apart : List CommitmentValue → Type 0
Apart [] = ⊤
Apart (c ∷ cs) = (is_registered c.id cs ≡ false) × Apart cs

registered_more : (id : List ℕ) (cs : List CommitmentValue) (c : CommitmentValue) → is_registered id (cs ++ c ∷ []) ≡ (is_registered id cs || bytes_eq id c.id)
unfolding is_registered
registered_more id cs c =
    list_any-append (λ d. bytes_eq id d.id) cs (c ∷ [])
    ∙ ap (λ b. list_any (λ d. bytes_eq id d.id) cs || b) (or-false (bytes_eq id c.id))

registered_parts : (id : List ℕ) (d : CommitmentValue) (cs : List CommitmentValue) → is_registered id (d ∷ cs) ≡ false → (bytes_eq id d.id ≡ false) × (is_registered id cs ≡ false)
unfolding is_registered
registered_parts id d cs h = false_parts (bytes_eq id d.id) (list_any (λ d. bytes_eq id d.id) cs) h

none_registered : (id : List ℕ) → is_registered id [] ≡ false
unfolding is_registered
none_registered id = refl

apart_more : (cs : List CommitmentValue) (c : CommitmentValue) → Apart cs → is_registered c.id cs ≡ false → Apart (cs ++ c ∷ [])
apart_more [] c apart new = (none_registered c.id, tt)
apart_more (d ∷ cs) c apart new =
    let parts = registered_parts c.id d cs new in
    let other = both_false (is_registered d.id cs) (bytes_eq d.id c.id) apart.0 (swapped d.id c.id ∙ parts.0) in
    (registered_more d.id cs c ∙ other, apart_more cs c apart.1 parts.1)

pub registered_at : (id : List ℕ) (cs : List CommitmentValue) (place : ℕ) (c : CommitmentValue) → slice_get cs place ≡ Some c → id ≡ c.id → is_registered id cs ≡ true
unfolding is_registered
registered_at id cs place c h same =
    let equal : bytes_eq id c.id ≡ true = (bytes_eq-Decides id c.id).1 same in
    let read = get_or_from_slice_get cs place c c h in
    list_any_at (λ d. bytes_eq id d.id) cs place c (slice_get_within cs place c h) (ap (λ (d : CommitmentValue). bytes_eq id d.id) read ∙ equal)

apart_once : (cs : List CommitmentValue) → Apart cs → (i j : ℕ) (a b : CommitmentValue) → slice_get cs i ≡ Some a → slice_get cs j ≡ Some b → a.id ≡ b.id → i ≡ j
apart_once [] apart i j a b ha hb same = absurd (cc)
apart_once (c ∷ cs) apart zero zero a b ha hb same = refl
apart_once (c ∷ cs) apart zero (suc j) a b ha hb same =
    let first : c ≡ a = cc in
    let found = registered_at c.id cs j b hb (ap (λ (d : CommitmentValue). d.id) first ∙ same) in
    let none = apart.0 in
    absurd (cc)
apart_once (c ∷ cs) apart (suc i) zero a b ha hb same =
    let first : c ≡ b = cc in
    let found = registered_at c.id cs i a ha (ap (λ (d : CommitmentValue). d.id) first ∙ sym same) in
    let none = apart.0 in
    absurd (cc)
apart_once (c ∷ cs) apart (suc i) (suc j) a b ha hb same = ap suc (apart_once cs apart.1 i j a b ha hb same)

none_with : (id : List ℕ) (cs : List CommitmentValue) → is_registered id cs ≡ false → filter (λ d. bytes_eq d.id id) cs ≡ []
none_with id [] none = refl
none_with id (d ∷ cs) none =
    let parts = registered_parts id d cs none in
    left_out (bytes_eq d.id id) d (filter (λ d. bytes_eq d.id id) cs) [] (swapped d.id id ∙ parts.0) (none_with id cs parts.1)

other_id : (id : List ℕ) (cs : List CommitmentValue) (place : ℕ) (c : CommitmentValue) → is_registered id cs ≡ false → slice_get cs place ≡ Some c → bytes_eq id c.id ≡ false
other_id id [] place c none h = absurd (cc)
other_id id (d ∷ cs) zero c none h =
    let same : d ≡ c = cc in
    ap (λ (c : CommitmentValue). bytes_eq id c.id) (sym same) ∙ (registered_parts id d cs none).0
other_id id (d ∷ cs) (suc place) c none h = other_id id cs place c (registered_parts id d cs none).1 h

apart_alone : (cs : List CommitmentValue) → Apart cs → (place : ℕ) (c : CommitmentValue) → slice_get cs place ≡ Some c → filter (λ d. bytes_eq d.id c.id) cs ≡ c ∷ []
apart_alone [] apart place c h = absurd (cc)
apart_alone (d ∷ cs) apart zero c h =
    let same : d ≡ c = cc in
    let none : is_registered c.id cs ≡ false = ap (λ (c : CommitmentValue). is_registered c.id cs) (sym same) ∙ apart.0 in
    left_in (bytes_eq d.id c.id) d (filter (λ d. bytes_eq d.id c.id) cs) [] (ap (λ (d : CommitmentValue). bytes_eq d.id c.id) same ∙ same_text c.id) (none_with c.id cs none)
    ∙ ap (λ d. d ∷ []) same
apart_alone (d ∷ cs) apart (suc place) c h =
    left_out (bytes_eq d.id c.id) d (filter (λ d. bytes_eq d.id c.id) cs) (c ∷ []) (other_id d.id cs place c apart.0 h) (apart_alone cs apart.1 place c h)

-- no row carries the id of a commitment more
discount_more : (cs : List CommitmentValue) (c : CommitmentValue) (discount : Option DiscountText)
    → option_map_or (λ d. is_registered d.id (cs ++ c ∷ [])) discount false ≡ (option_map_or (λ d. is_registered d.id cs) discount false || option_map_or (λ d. bytes_eq c.id d.id) discount false)
discount_more cs c None = refl
discount_more cs c (Some d) = registered_more d.id cs c ∙ ap (λ b. is_registered d.id cs || b) (swapped d.id c.id)

commitment_apart : (rows : List Charge) (cs : List CommitmentValue) (c : CommitmentValue) → carries_any rows cs ≡ false → carries c.id rows ≡ false → carries_any rows (cs ++ c ∷ []) ≡ false
unfolding carries_any carries
commitment_apart [] cs c none unused = refl
commitment_apart (row ∷ rows) cs c none unused =
    let here = false_parts (has_registered_id cs row) (carries_any rows cs) none in
    let new = false_parts (has_id c.id row) (carries c.id rows) unused in
    both_false (has_registered_id (cs ++ c ∷ []) row) (carries_any rows (cs ++ c ∷ []))
    (discount_more cs c row.discount ∙ both_false (has_registered_id cs row) (has_id c.id row) here.0 new.0) (commitment_apart rows cs c here.1 new.1)

rows_apart : (rows more : List Charge) (cs : List CommitmentValue) → carries_any rows cs ≡ false → carries_any more cs ≡ false → carries_any (rows ++ more) cs ≡ false
unfolding carries_any
rows_apart rows more cs none new = list_any-append (has_registered_id cs) rows more ∙ both_false _ _ none new

other_row : (cs : List CommitmentValue) (rows : List Charge) (i : ℕ) (row : Charge) → carries_any rows cs ≡ false → slice_get rows i ≡ Some row → has_registered_id cs row ≡ false
unfolding carries_any
other_row cs [] i row none h = absurd (cc)
other_row cs (r ∷ rows) zero row none h =
    let same : r ≡ row = cc in
    ap (has_registered_id cs) (sym same) ∙ (false_parts (has_registered_id cs r) (carries_any rows cs) none).0
other_row cs (r ∷ rows) (suc i) row none h = other_row cs rows i row (false_parts (has_registered_id cs r) (carries_any rows cs) none).1 h

-- both stay so with each entry that is accepted
command_apart : (es : List EntryValue) (origin : List ℕ) (c : CommandValue) → command_conflict es origin c ≡ None → Apart (committed_of es) → Apart (committed_of es ++ committed c)
command_apart es origin (post more) h apart = rw append-nil apart
command_apart es origin (commit c) h apart = apart_more (committed_of es) c apart (new_id es origin c h)
command_apart es origin (set_policy p) h apart = rw append-nil apart
command_apart es origin (withdraw n) h apart = rw append-nil apart
command_apart es origin (add_purchase a) h apart = rw append-nil apart

apart_kept : (es : List EntryValue) (e : EntryValue) → Apart (committed_of es) → judged es e ≡ verdict.Accept → Apart (committed_of (es ++ e ∷ []))
apart_kept es e apart h = rw committed_of_more (command_apart es e.origin e.command (accepted_command es e h) apart)

first_apart : Apart (committed_of [])
unfolding committed_of
first_apart = tt

commitments_apart : (es : List EntryValue) → IsLegal es → Apart (committed_of es)
commitments_apart es legal = legal_kept (λ es. Apart (committed_of es)) apart_kept [] es first_apart legal

abbrev NoneCarried : List EntryValue → Type 0
NoneCarried es = carries_any (rows_of es) (committed_of es) ≡ false

command_carried : (es : List EntryValue) (origin : List ℕ) (c : CommandValue) → command_conflict es origin c ≡ None → NoneCarried es → carries_any (rows_of es ++ posted c) (committed_of es ++ committed c) ≡ false
command_carried es origin (post more) h none = rw append-nil (rows_apart (rows_of es) more (committed_of es) none (no_registered_id es origin more h))
command_carried es origin (commit c) h none = rw append-nil (commitment_apart (rows_of es) (committed_of es) c none (unused_id es origin c h))
command_carried es origin (set_policy p) h none = simp append-nil none
command_carried es origin (withdraw n) h none = simp append-nil none
command_carried es origin (add_purchase a) h none = simp append-nil none

-- no other row counts than before, but for those that the entry posts
no_more_carried : (es : List EntryValue) (e : EntryValue) (cs : List CommitmentValue) → carries_any (rows_of es ++ posted e.command) cs ≡ false → carries_any (rows_of (es ++ e ∷ [])) cs ≡ false
unfolding carries_any
no_more_carried es e cs none = none_more (has_registered_id cs) es e none

carried_kept : (es : List EntryValue) (e : EntryValue) → NoneCarried es → judged es e ≡ verdict.Accept → NoneCarried (es ++ e ∷ [])
carried_kept es e none h = rw committed_of_more (no_more_carried es e (committed_of es ++ committed e.command) (command_carried es e.origin e.command (accepted_command es e h) none))

first_carried : NoneCarried []
unfolding rows_of carries_any
first_carried = refl

none_carried : (es : List EntryValue) → IsLegal es → NoneCarried es
none_carried es legal = legal_kept NoneCarried carried_kept [] es first_carried legal

-- the same of the commitments with all their purchases, whose ids are those of the commitments
still_apart : (es : List EntryValue) (cs : List CommitmentValue) → Apart cs → Apart (map (with_added es) cs)
still_apart es [] apart = tt
still_apart es (c ∷ cs) apart = (same_ids es c.id cs ∙ apart.0, still_apart es cs apart.1)

all_apart : (es : List EntryValue) → IsLegal es → Apart (commitments_of es)
unfolding commitments_of
all_apart es legal = still_apart es (committed_of es) (commitments_apart es legal)

pub own_id : (es : List EntryValue) → IsLegal es → (i j : ℕ) (a b : CommitmentValue) → slice_get (commitments_of es) i ≡ Some a → slice_get (commitments_of es) j ≡ Some b → a.id ≡ b.id → i ≡ j
own_id es legal = apart_once (commitments_of es) (all_apart es legal)

pub alone : (es : List EntryValue) → IsLegal es → (place : ℕ) (c : CommitmentValue) → slice_get (commitments_of es) place ≡ Some c → filter (λ d. bytes_eq d.id c.id) (commitments_of es) ≡ c ∷ []
alone es legal = apart_alone (commitments_of es) (all_apart es legal)

-- no row carries the id of a commitment
pub apart_ids : (rows : List Charge) (cs : List CommitmentValue) → carries_any rows cs ≡ false → NoRowHasIdOf rows cs
apart_ids rows cs none i j row discount c hr hd hc same =
    let other = other_row cs rows i row none hr in
    let read : has_registered_id cs row ≡ is_registered discount.id cs = ap (λ o. option_map_or (λ d. is_registered d.id cs) o false) hd in
    let found = registered_at discount.id cs j c hc same in
    absurd (cc)

pub other_ids : (es : List EntryValue) → IsLegal es → NoRowHasIdOf (rows_of es) (commitments_of es)
other_ids es legal = apart_ids (rows_of es) (commitments_of es) (carries_same es (rows_of es) ∙ none_carried es legal)

-- and no commitment has that of another
pub new_among : (cs : List CommitmentValue) (c : CommitmentValue) → is_registered c.id cs ≡ false → NoneHasIdOf cs c
new_among cs c none place other at same =
    let found = registered_at c.id cs place other at (sym same) in
    absurd (cc)

carried_at : (id : List ℕ) (rows : List Charge) (place : ℕ) (row : Charge) → slice_get rows place ≡ Some row → has_id id row ≡ true → carries id rows ≡ true
unfolding carries
carried_at id rows place row h has =
    let read = get_or_from_slice_get rows place row row h in
    list_any_at (has_id id) rows place row (slice_get_within rows place row h) (ap (has_id id) read ∙ has)

the_only : (c d : CommitmentValue) (place : ℕ) → slice_get (c ∷ []) place ≡ Some d → c ≡ d
the_only c d zero at = cc
the_only c d (suc place) at = absurd (cc)

pub unused_by_rows : (rows : List Charge) (c : CommitmentValue) → carries c.id rows ≡ false → NoRowHasIdOf rows (c ∷ [])
unused_by_rows rows c none i j row discount d hr hd hc same =
    let one = the_only c d j hc in
    let equal : bytes_eq c.id discount.id ≡ true = (bytes_eq-Decides c.id discount.id).1 (ap (λ (c : CommitmentValue). c.id) one ∙ sym same) in
    let has : has_id c.id row ≡ true = ap (λ o. option_map_or (λ d. bytes_eq c.id d.id) o false) hd ∙ equal in
    let found = carried_at c.id rows i row hr has in
    absurd (cc)
