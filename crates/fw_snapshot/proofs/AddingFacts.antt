-- What an accepted entry does to the commitments: one more stands behind them, or one has a purchase more.
use Rattle.std.proofs.Common.{◌≡◌, ◌||◌, ◌∙◌, ◌++◌, ◌∷◌, List, [], Bool, true, false, ℕ, Some, None, if◌then◌else◌, map, refl, sym, ap, subst}
use Rattle.std.specs.List.{list_any, All}
use Rattle.std.specs.Str.{bytes_eq}
use Rattle.std.specs.Prelude.{◌&&◌, not}
use Rattle.std.proofs.lemmas.List.{append-nil, append_assoc, map-append}
use Rattle.std.proofs.lemmas.List.Elements.{All-nil, All-cons, All-head, All-tail, All-push, All-pop}
use Rattle.std.proofs.lemmas.List.Folds.{list_any-append}
use Rattle.std.proofs.lemmas.Slice.Eq.{bytes_eq-Decides}
use Rattle.fw_terms.specs.Commitment.{PurchaseValue, CommitmentValue, IsCommitment, takes_purchase, with_purchase}
use Rattle.fw_terms.specs.Added.{AddedValue}
use Rattle.fw_terms.specs.Spelling.{IsSpelledAdded}
use Rattle.fw_terms.proofs.Adding.{purchase_kept}
use Rattle.fw_entry.specs.Entry.{CommandValue, EntryValue}
use Rattle.fw_entry.specs.Entry.CommandValue.{post, commit, set_policy, withdraw, add_purchase}
use Rattle.fw_entry.specs.Spelling.{IsCommand, IsEntry}
use Rattle.fw_snapshot.specs.History.{posted, withdraws, added, committed, committed_of, purchases_added, with_added, commitments_of, rows_of, policy_of, policy_after}
use Rattle.fw_snapshot.specs.Adding.{with_added_purchase, commitments_after, NoneRefuses}
use Rattle.fw_snapshot.specs.Judging.{judged, IsLegal, IsLegalAfter, is_registered, refuses, purchase_conflict, command_conflict}
use Rattle.fw_snapshot.specs.declared.verdict.Conflict.{Conflict}
use Rattle.fw_snapshot.specs.declared.verdict.Verdict.TheVariants as verdict
use Rattle.fw_snapshot.proofs.EntryFacts.{committed_of_more, policy_of_more}
use Rattle.fw_snapshot.proofs.CountingFacts.{rows_stay}
use Rattle.fw_snapshot.proofs.AddedFacts.{purchases_added_more, registered_same}
use Rattle.fw_snapshot.proofs.LegalFacts.{accepted_command, legal_kept, legal_more, new_id}
use Rattle.fw_snapshot.proofs.IdFacts.{false_parts}

-- ---- a purchase that is accepted

no_conflict : (there refused : Bool) (limit absent : Conflict) → (if there then (if refused then Some limit else None) else Some absent) ≡ None → (there ≡ true) × (refused ≡ false)
no_conflict true true limit absent h = absurd (cc)
no_conflict true false limit absent h = (refl, refl)
no_conflict false refused limit absent h = absurd (cc)

-- its commitment is there, and none refuses it
pub accepted_purchase : (es : List EntryValue) (origin : List ℕ) (a : AddedValue) → command_conflict es origin (add_purchase a) ≡ None → (is_registered a.id (commitments_of es) ≡ true) × (list_any (refuses a) (commitments_of es) ≡ false)
unfolding command_conflict purchase_conflict
accepted_purchase es origin a h = no_conflict (is_registered a.id (commitments_of es)) (list_any (refuses a) (commitments_of es)) _ _ h

refuses_none : (es : List EntryValue) (origin : List ℕ) (c : CommandValue) → command_conflict es origin c ≡ None → NoneRefuses (commitments_of es) c
refuses_none es origin (post rows) h = tt
refuses_none es origin (commit c) h = tt
refuses_none es origin (set_policy p) h = tt
refuses_none es origin (withdraw n) h = tt
refuses_none es origin (add_purchase a) h = (accepted_purchase es origin a h).1

pub none_refuses : (es : List EntryValue) (e : EntryValue) → judged es e ≡ verdict.Accept → NoneRefuses (commitments_of es) e.command
none_refuses es e h = refuses_none es e.origin e.command (accepted_command es e h)

-- ---- nothing is added to what isn't there

abbrev NoneAdded : List EntryValue → Type 0
NoneAdded es = (id : List ℕ) → is_registered id (committed_of es) ≡ false → purchases_added id es ≡ []

not_meant : (meant : Bool) (p : PurchaseValue) → (meant ≡ true → ⊥) → (if meant then p ∷ [] else []) ≡ []
not_meant true p other = absurd (other refl)
not_meant false p other = refl

unlike : (b : Bool) → b ≡ true → b ≡ false → ⊥
unlike b h k = absurd (cc)

adds_nothing : (es : List EntryValue) (origin id : List ℕ) (c : CommandValue) → command_conflict es origin c ≡ None → is_registered id (committed_of es) ≡ false → added id c ≡ []
adds_nothing es origin id (post rows) h none = refl
adds_nothing es origin id (commit c) h none = refl
adds_nothing es origin id (set_policy p) h none = refl
adds_nothing es origin id (withdraw n) h none = refl
adds_nothing es origin id (add_purchase a) h none =
    let there : is_registered a.id (committed_of es) ≡ true = sym (registered_same es a.id) ∙ (accepted_purchase es origin a h).0 in
    not_meant (bytes_eq a.id id) a.purchase
    (λ same. unlike (is_registered id (committed_of es)) (ap (λ i. is_registered i (committed_of es)) (sym ((bytes_eq-Decides a.id id).0 same)) ∙ there) none)

registered_append : (id : List ℕ) (cs more : List CommitmentValue) → is_registered id (cs ++ more) ≡ (is_registered id cs || is_registered id more)
unfolding is_registered
registered_append id cs more = list_any-append (λ c. bytes_eq id c.id) cs more

none_added_more : (es : List EntryValue) (e : EntryValue) → NoneAdded es → judged es e ≡ verdict.Accept → NoneAdded (es ++ e ∷ [])
none_added_more es e holds h id none =
    let split : (is_registered id (committed_of es) || is_registered id (committed e.command)) ≡ false = sym (ap (is_registered id) (committed_of_more es e) ∙ registered_append id (committed_of es) (committed e.command)) ∙ none in
    let before = (false_parts (is_registered id (committed_of es)) (is_registered id (committed e.command)) split).0 in
    purchases_added_more id es e ∙ ap (λ ps. ps ++ added id e.command) (holds id before) ∙ adds_nothing es e.origin id e.command (accepted_command es e h) before

none_added_first : NoneAdded []
unfolding purchases_added
none_added_first id none = refl

none_added : (es : List EntryValue) → IsLegal es → NoneAdded es
none_added es legal = legal_kept NoneAdded none_added_more [] es none_added_first legal

-- ---- the commitments after one entry more

map_like : {A B : Type 0} (f g : A → B) → ((x : A) → f x ≡ g x) → (xs : List A) → map f xs ≡ map g xs
map_like f g same [] = refl
map_like f g same (x ∷ xs) = rw (same x, map_like f g same xs) refl

map_twice : {A B C : Type 0} (f : B → C) (g : A → B) (xs : List A) → map f (map g xs) ≡ map (λ x. f (g x)) xs
map_twice f g [] = refl
map_twice f g (x ∷ xs) = ap (λ ys. f (g x) ∷ ys) (map_twice f g xs)

-- a commitment with these purchases behind its own
abbrev and_behind : CommitmentValue → List PurchaseValue → CommitmentValue
and_behind c ps = record c { purchases = c.purchases ++ ps }

-- what entries and then a command add to a commitment
abbrev with_more : List EntryValue → CommandValue → CommitmentValue → CommitmentValue
with_more es command c = and_behind c (purchases_added c.id es ++ added c.id command)

is_with_more : (es : List EntryValue) (e : EntryValue) (c : CommitmentValue) → with_added (es ++ e ∷ []) c ≡ with_more es e.command c
is_with_more es e c = ap (and_behind c) (purchases_added_more c.id es e)

adds_none : (es : List EntryValue) (c : CommitmentValue) → and_behind c (purchases_added c.id es ++ []) ≡ with_added es c
adds_none es c = ap (and_behind c) (append-nil (purchases_added c.id es))

adds_if : (meant : Bool) (c : CommitmentValue) (ps : List PurchaseValue) (p : PurchaseValue) → and_behind c (ps ++ (if meant then p ∷ [] else [])) ≡ (if meant then with_purchase (and_behind c ps) p else and_behind c ps)
adds_if true c ps p = ap (λ qs. let made : CommitmentValue = record c { purchases = qs } in made) (sym (append_assoc c.purchases ps (p ∷ [])))
adds_if false c ps p = ap (and_behind c) (append-nil ps)

adds_one : (es : List EntryValue) (a : AddedValue) (c : CommitmentValue) → with_more es (add_purchase a) c ≡ with_added_purchase a (with_added es c)
adds_one es a c = adds_if (bytes_eq a.id c.id) c (purchases_added c.id es) a.purchase

-- a commitment that is new has its own purchases alone
new_alone : (es : List EntryValue) (c : CommitmentValue) → IsLegal es → is_registered c.id (committed_of es) ≡ false → with_more es (commit c) c ≡ c
new_alone es c legal new =
    adds_none es c
    ∙ ap (and_behind c) (none_added es legal c.id new)
    ∙ ap (λ qs. let made : CommitmentValue = record c { purchases = qs } in made) (append-nil c.purchases)

step : (es : List EntryValue) (origin : List ℕ) (c : CommandValue) → IsLegal es → command_conflict es origin c ≡ None → map (with_more es c) (committed_of es ++ committed c) ≡ commitments_after (map (with_added es) (committed_of es)) c
step es origin (post rows) legal h = ap (map (with_more es (post rows))) (append-nil (committed_of es)) ∙ map_like (with_more es (post rows)) (with_added es) (adds_none es) (committed_of es)
step es origin (commit c) legal h =
    map-append (with_more es (commit c)) (committed_of es) (c ∷ [])
    ∙ ap (λ cs. cs ++ with_more es (commit c) c ∷ []) (map_like (with_more es (commit c)) (with_added es) (adds_none es) (committed_of es))
    ∙ ap (λ last. map (with_added es) (committed_of es) ++ last ∷ []) (new_alone es c legal (new_id es origin c h))
step es origin (set_policy p) legal h = ap (map (with_more es (set_policy p))) (append-nil (committed_of es)) ∙ map_like (with_more es (set_policy p)) (with_added es) (adds_none es) (committed_of es)
step es origin (withdraw n) legal h = ap (map (with_more es (withdraw n))) (append-nil (committed_of es)) ∙ map_like (with_more es (withdraw n)) (with_added es) (adds_none es) (committed_of es)
step es origin (add_purchase a) legal h =
    ap (map (with_more es (add_purchase a))) (append-nil (committed_of es))
    ∙ map_like (with_more es (add_purchase a)) (λ c. with_added_purchase a (with_added es c)) (adds_one es a) (committed_of es)
    ∙ sym (map_twice (with_added_purchase a) (with_added es) (committed_of es))

pub commitments_of_more : (es : List EntryValue) (e : EntryValue) → IsLegal es → judged es e ≡ verdict.Accept → commitments_of (es ++ e ∷ []) ≡ commitments_after (commitments_of es) e.command
unfolding commitments_of
commitments_of_more es e legal h =
    map_like (with_added (es ++ e ∷ [])) (with_more es e.command) (is_with_more es e) (committed_of (es ++ e ∷ []))
    ∙ ap (map (with_more es e.command)) (committed_of_more es e)
    ∙ step es e.origin e.command legal (accepted_command es e h)

-- a purchase that is added changes neither the rows nor the policy
pub changes_no_more : (es : List EntryValue) (e : EntryValue) (a : AddedValue) → e.command ≡ add_purchase a → (rows_of (es ++ e ∷ []) ≡ rows_of es) × (policy_of (es ++ e ∷ []) ≡ policy_of es)
changes_no_more es e a is =
    (rows_stay es e (λ seq. ap (withdraws seq) is) (ap posted is), policy_of_more es e ∙ ap (policy_after (policy_of es)) is)

-- ---- commitments keep their limits

takes : (same takes : Bool) → (same && not takes) ≡ false → same ≡ true → takes ≡ true
takes true true h s = refl
takes true false h s = absurd (cc)
takes false t h s = absurd (cc)

one_kept : (a : AddedValue) (c : CommitmentValue) (same : Bool) → bytes_eq a.id c.id ≡ same → IsSpelledAdded a → refuses a c ≡ false → IsCommitment c → IsCommitment (if same then with_purchase c a.purchase else c)
one_kept a c true is spelled h kept = purchase_kept c a.purchase kept (takes (bytes_eq a.id c.id) (takes_purchase c a.purchase) h is) spelled.purchase.at
one_kept a c false is spelled h kept = kept

each_kept : (a : AddedValue) (cs : List CommitmentValue) → IsSpelledAdded a → list_any (refuses a) cs ≡ false → All IsCommitment cs → All IsCommitment (map (with_added_purchase a) cs)
each_kept a [] spelled h kept = All-nil IsCommitment
each_kept a (c ∷ cs) spelled h kept =
    let parts = false_parts (refuses a c) (list_any (refuses a) cs) h in
    All-cons IsCommitment (with_added_purchase a c) (map (with_added_purchase a) cs)
    (one_kept a c (bytes_eq a.id c.id) refl spelled parts.0 (All-head IsCommitment c cs kept))
    (each_kept a cs spelled parts.1 (All-tail IsCommitment c cs kept))

after_kept : (cs : List CommitmentValue) (c : CommandValue) → IsCommand c → NoneRefuses cs c → All IsCommitment cs → All IsCommitment (commitments_after cs c)
after_kept cs (post rows) is h kept = kept
after_kept cs (commit c) is h kept = All-push IsCommitment cs c kept is.limits
after_kept cs (set_policy p) is h kept = kept
after_kept cs (withdraw n) is h kept = kept
after_kept cs (add_purchase a) is h kept = each_kept a cs is h kept

abbrev KeepLimits : List EntryValue → Type 0
KeepLimits es = IsLegal es × (All IsEntry es → All IsCommitment (commitments_of es))

keep_limits_more : (es : List EntryValue) (e : EntryValue) → KeepLimits es → judged es e ≡ verdict.Accept → KeepLimits (es ++ e ∷ [])
keep_limits_more es e holds h = (
  legal_more [] es e holds.0 h,
  λ each.
      let parts = All-pop IsEntry (es ++ e ∷ []) es (Some e) refl each in
      subst (All IsCommitment) (sym (commitments_of_more es e holds.0 h)) (after_kept (commitments_of es) e.command parts.1.command (none_refuses es e h) (holds.1 parts.0)),
)

keep_limits_first : KeepLimits []
unfolding IsLegalAfter commitments_of committed_of
keep_limits_first = (tt, λ each. All-nil IsCommitment)

-- the commitments of a legal list of entries keep the limits of commitments, with all their purchases
pub commitments_keep : (es : List EntryValue) → IsLegal es → All IsEntry es → All IsCommitment (commitments_of es)
commitments_keep es legal each = (legal_kept KeepLimits keep_limits_more [] es keep_limits_first legal).1 each
