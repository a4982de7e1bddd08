-- A compacted list is accepted, entry by entry.
use Rattle.std.proofs.Common.{◌≡◌, ◌+◌, ◌≤◌, ◌<◌, ◌∙◌, ◌++◌, ◌||◌, ◌&&◌, ℕ, List, [], ◌∷◌, Bool, true, false, if◌then◌else◌, filter, length, slice_get, inl, inr, refl, sym, ap, subst, arith, length-append}
use Rattle.std.specs.List.{flat_map, list_any, All, Contains}
use Rattle.std.specs.Str.{bytes_eq}
use Rattle.std.specs.Bool.{⊤}
use Rattle.std.proofs.lemmas.Bool.{cases_Bool}
use Rattle.std.proofs.lemmas.List.{append-nil, append_assoc}
use Rattle.std.proofs.lemmas.List.Elements.{All-nil, All-cons, All-head, All-tail, All-push, All-weaker, All-contains_itself}
use Rattle.std.proofs.lemmas.List.Folds.{list_any-append}
use Rattle.fw_charge.specs.Charge.{Charge}
use Rattle.fw_entry.specs.Entry.{CommandValue, EntryValue}
use Rattle.fw_entry.specs.Entry.CommandValue.{post, commit, set_policy, withdraw, add_purchase}
use Rattle.fw_entry.specs.Spelling.{IsEntry}
use Rattle.fw_snapshot.specs.History.{posted, withdraws, is_withdrawn, counting, rows_posted, rows_of, entries_from}
use Rattle.fw_snapshot.specs.Ids.{NoRowHasIdOf, NoneHasIdOf}
use Rattle.fw_snapshot.specs.Judging.{judged, IsLegal, IsLegalAfter, command_conflict, has_id, carries, most_commitments}
use Rattle.fw_snapshot.specs.Posts.{stays}
use Rattle.fw_snapshot.specs.declared.verdict.Verdict.TheVariants as verdict
use Rattle.fw_snapshot.proofs.EntryFacts.{entries_from_more}
use Rattle.fw_snapshot.proofs.IdFacts.{unused_by_rows}
use Rattle.fw_snapshot.proofs.LegalFacts.{accepted_number, accepted_command, legal_more, unused_id}
use Rattle.fw_snapshot.proofs.RuleFacts.{post_accepted, commit_accepted, policy_accepted, added_accepted, accepted_post, accepted_commit, accepted_added}
use Rattle.fw_compact.specs.Compacted.{IsOneOf, counts_by, does_count, kept, with_number, one_more_of, numbered, compacted}
use Rattle.fw_compact.proofs.EntryLimits.{is_entry}
use Rattle.fw_compact.proofs.KeptFacts.{IsBehind, one_kept, one_left, rows_behind, commitments_behind, none_behind}
use Rattle.fw_compact.proofs.ListFacts.{passes, fails, numbered_alike}

-- ---- what is withdrawn of the first entries of a list is withdrawn of all

abbrev Lasts : List EntryValue → List EntryValue → Type 0
Lasts before all = (origin : List ℕ) (seq : ℕ) → is_withdrawn before origin seq ≡ true → is_withdrawn all origin seq ≡ true

or_first : (a b : Bool) → a ≡ true → (a || b) ≡ true
or_first true b h = refl
or_first false b h = absurd (cc)

lasts : (before more : List EntryValue) → Lasts before (before ++ more)
unfolding is_withdrawn
lasts before more origin seq h =
    list_any-append (λ w. bytes_eq origin w.origin && withdraws seq w.command) before more
    ∙ or_first (list_any (λ w. bytes_eq origin w.origin && withdraws seq w.command) before) (list_any (λ w. bytes_eq origin w.origin && withdraws seq w.command) more) h

-- so a test that no row passes that counted, none passes that counts still
parts_of : (a b : Bool) → (a || b) ≡ false → (a ≡ false) × (b ≡ false)
parts_of true b h = absurd (cc)
parts_of false b h = (refl, h)

neither : (a b : Bool) → a ≡ false → b ≡ false → (a || b) ≡ false
neither true b h k = h
neither false b h k = k

none_of_it : (p : Charge → Bool) (first all : Bool) (rows : List Charge) → (first ≡ true → all ≡ true) → list_any p (if first then [] else rows) ≡ false → list_any p (if all then [] else rows) ≡ false
none_of_it p first true rows up h = refl
none_of_it p true false rows up h = absurd (let wrong = up refl in cc)
none_of_it p false false rows up h = h

none_still : (p : Charge → Bool) (before all es : List EntryValue) → Lasts before all → list_any p (flat_map (counting before) es) ≡ false → list_any p (flat_map (counting all) es) ≡ false
none_still p before all [] up h = refl
none_still p before all (e ∷ es) up h =
    let parts = parts_of (list_any p (counting before e)) (list_any p (flat_map (counting before) es)) (sym (list_any-append p (counting before e) (flat_map (counting before) es)) ∙ h) in
    let here = none_of_it p (is_withdrawn before e.origin e.seq) (is_withdrawn all e.origin e.seq) (posted e.command) (up e.origin e.seq) parts.0 in
    list_any-append p (counting all e) (flat_map (counting all) es)
    ∙ neither (list_any p (counting all e)) (list_any p (flat_map (counting all) es)) here (none_still p before all es up parts.1)

carried_still : (id : List ℕ) (all before new : List EntryValue) → Lasts before all → IsBehind all before new → carries id (rows_of before) ≡ false → carries id (rows_of new) ≡ false
unfolding carries rows_of
carried_still id all before new up b h = ap (list_any (has_id id)) (rows_behind all before new b) ∙ none_still (has_id id) before all before up h

-- no more rows are posted than before
at_most : (gone : Bool) (rows : List Charge) → length (if gone then [] else rows) ≤ length rows
at_most true rows = omega arith
at_most false rows = omega arith

no_more : (all es : List EntryValue) → length (flat_map (counting all) es) ≤ length (flat_map (λ e. posted e.command) es)
no_more all [] = omega arith
no_more all (e ∷ es) =
    let rest = no_more all es in
    let here = at_most (is_withdrawn all e.origin e.seq) (posted e.command) in
    let some = length-append (counting all e) (flat_map (counting all) es) in
    let more = length-append (posted e.command) (flat_map (λ e. posted e.command) es) in
    omega arith

fewer_rows : (all before new : List EntryValue) → IsBehind all before new → length (rows_posted new) ≤ length (rows_posted before)
unfolding rows_posted
fewer_rows all before new b = let few = no_more all before in let same = ap length b.rows in omega arith

-- ---- an entry that was accepted after the first entries, and counts, is accepted after the new ones

next_accepted : (all before new : List EntryValue) (e next : EntryValue) (c : CommandValue) → e.command ≡ c → next.command ≡ c → next.seq ≡ entries_from next.origin new + 1
    → Lasts before all → IsBehind all before new → IsLegal new → counts_by (stays all e) c ≡ true → judged before e ≡ verdict.Accept → judged new next ≡ verdict.Accept
next_accepted all before new e next (post rows) was is number up b legal counts h =
    let parts = accepted_post before e rows h was in
    let few = fewer_rows all before new b in
    post_accepted new next rows number is (omega (arith, parts.0)) (subst (λ cs. NoRowHasIdOf rows cs) (sym b.commitments) parts.1)
next_accepted all before new e next (commit c) was is number up b legal counts h =
    let parts = accepted_commit before e c h was in
    let unused = unused_id before e.origin c (ap (command_conflict before e.origin) (sym was) ∙ accepted_command before e h) in
    commit_accepted new next c number is
    (subst (λ cs. length cs < most_commitments) (sym b.commitments) parts.0)
    (subst (λ cs. NoneHasIdOf cs c) (sym b.commitments) parts.1)
    (unused_by_rows (rows_of new) c (carried_still c.id all before new up b unused))
next_accepted all before new e next (set_policy p) was is number up b legal counts h = policy_accepted new next p number is
next_accepted all before new e next (withdraw n) was is number up b legal counts h = absurd (cc)
next_accepted all before new e next (add_purchase a) was is number up b legal counts h =
    let parts = accepted_added before e a h was in
    let has = parts.0 in
    let same = commitments_behind all before new b in
    added_accepted new next a legal number is
    (record { place = has.place; commitment = has.commitment; stands = ap (λ cs. slice_get cs has.place) same ∙ has.stands; same = has.same })
    parts.1 parts.2

-- ---- the whole list

-- what is so of an entry is so of it under a smaller number
abbrev pub IsSoBelow : (EntryValue → Type 0) → Type 0
IsSoBelow P = (n : ℕ) (e : EntryValue) → P e → 0 < n → n ≤ e.seq → P (with_number n e)

-- entries that are accepted one after the other, of each of which something is so
record IsTaken (P : EntryValue → Type 0) (es : List EntryValue) : Type 0 where
  legal : IsLegal es
  each : All P es

taken_behind : (P : EntryValue → Type 0) (new rest : List EntryValue) (first : EntryValue) → IsTaken P ((new ++ first ∷ []) ++ rest) → IsTaken P (new ++ first ∷ rest)
taken_behind P new rest first t = subst (IsTaken P) (append_assoc new (first ∷ []) rest) t

all_taken : (P : EntryValue → Type 0) → IsSoBelow P → (all before new es : List EntryValue) → all ≡ before ++ es → IsLegalAfter before es → All P es → IsBehind all before new → IsTaken P new
    → IsTaken P (new ++ numbered (λ origin. entries_from origin new) (filter (does_count all) es))
unfolding numbered IsLegalAfter
all_taken P below all before new [] is legal each b t = subst (IsTaken P) (sym (append-nil new)) t
all_taken P below all before new (e ∷ es) is legal each b t =
    elim (cases_Bool (does_count all e)) [
      | inl h ↦ (
          let n = entries_from e.origin new + 1 in
          let first = with_number n e in
          let more = new ++ first ∷ [] in
          let up = subst (Lasts before) (sym is) (lasts before (e ∷ es)) in
          let accepted = next_accepted all before new e first e.command refl refl refl up b t.legal h legal.0 in
          let small : n ≤ e.seq = (let next = accepted_number before e legal.0 in let few = b.fewer e.origin in omega arith) in
          let so = below n e (All-head P e es each) (omega arith) small in
          let taken : IsTaken P more = record { legal = legal_more [] new first t.legal accepted; each = All-push P new first t.each so } in
          let rest = all_taken P below all (before ++ e ∷ []) more es (is ∙ sym (append_assoc before (e ∷ []) es)) legal.1 (All-tail P e es each) (one_kept all before new e n b h) taken in
          let alike = numbered_alike (λ origin. entries_from origin more) (one_more_of e.origin (λ origin. entries_from origin new)) (λ origin. entries_from_more origin new first) (filter (does_count all) es) in
          let numbers = subst (λ list. IsTaken P (more ++ list)) alike rest in
          subst (λ list. IsTaken P (new ++ numbered (λ origin. entries_from origin new) list)) (sym (passes (does_count all) e es h)) (taken_behind P new _ first numbers)
          )
      | inr h ↦ (
          let rest = all_taken P below all (before ++ e ∷ []) new es (is ∙ sym (append_assoc before (e ∷ []) es)) legal.1 (All-tail P e es each) (one_left all before new e b h) t in
          subst (λ list. IsTaken P (new ++ numbered (λ origin. entries_from origin new) list)) (sym (fails (does_count all) e es h)) rest
          )
    ]

none_taken : (P : EntryValue → Type 0) → IsTaken P []
unfolding IsLegalAfter
none_taken P = record { legal = tt; each = All-nil P }

none_before : (origin : List ℕ) → entries_from origin [] ≡ 0
unfolding entries_from
none_before origin = refl

list_taken : (P : EntryValue → Type 0) → IsSoBelow P → (es : List EntryValue) → IsLegal es → All P es → IsTaken P (compacted es)
unfolding compacted
list_taken P below es legal each =
    subst (IsTaken P) (numbered_alike (λ origin. entries_from origin []) (λ origin. 0) none_before (kept es)) (all_taken P below es [] [] es refl legal each (none_behind es) (none_taken P))

-- each entry is any entry
any_each : (es : List EntryValue) → All (λ e. ⊤) es
any_each [] = All-nil (λ e. ⊤)
any_each (e ∷ es) = All-cons (λ e. ⊤) e es tt (any_each es)

pub compacted_legal : (es : List EntryValue) → IsLegal es → IsLegal (compacted es)
compacted_legal es legal = let t = list_taken (λ e. ⊤) (λ n e so some small. tt) es legal (any_each es) in t.legal

pub compacted_each : (es : List EntryValue) → IsLegal es → All IsEntry es → All IsEntry (compacted es)
compacted_each es legal each =
    let t = list_taken IsEntry (λ n e so some small. is_entry n e so some (let old = so.seq in omega arith)) es legal each in t.each

-- each is one of the entries, under a number that is no greater
below_old : (es : List EntryValue) → IsSoBelow (IsOneOf es)
below_old es n e so some small = record {
  old = so.old;
  there = so.there;
  is = ap (with_number n) so.is;
  no_greater = (let few = so.no_greater in omega arith);
}

pub compacted_of : (es : List EntryValue) → IsLegal es → All (IsOneOf es) (compacted es)
compacted_of es legal = let t = list_taken (IsOneOf es) (below_old es) es legal (All-weaker (Contains es) (IsOneOf es) (λ e there. record { old = e; there = there; is = refl; no_greater = omega arith }) es (All-contains_itself es)) in t.each
