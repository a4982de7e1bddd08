-- An accepted withdrawal leaves the rows of one post out, and nothing else.
use Rattle.std.proofs.Common.{◌≡◌, ◌≢◌, ◌∙◌, inl, inr, ◌++◌, ◌∷◌, ℕ, zero, suc, List, [], Some, Bool, true, false, if◌then◌else◌, slice_get, refl, sym, ap, arith}
use Rattle.std.specs.List.{flat_map}
use Rattle.std.specs.Prelude.{◌&&◌, ◌==◌}
use Rattle.std.specs.Str.{bytes_eq}
use Rattle.std.proofs.lemmas.Bool.{and_parts}
use Rattle.std.proofs.lemmas.Bool.Decides.{Decides-eqb}
use Rattle.std.proofs.lemmas.List.{append_assoc}
use Rattle.std.proofs.lemmas.Slice.Eq.{bytes_eq-Decides}
use Rattle.fw_charge.specs.Charge.{Charge}
use Rattle.fw_entry.specs.Entry.{CommandValue, EntryValue}
use Rattle.fw_entry.specs.Entry.CommandValue.{withdraw}
use Rattle.fw_snapshot.specs.Adding.{commitments_after}
use Rattle.fw_snapshot.specs.History.{posted, withdraws, is_withdrawn, counting, rows_of, commitments_of, policy_of, policy_after}
use Rattle.fw_snapshot.specs.Judging.{judged, IsLegal}
use Rattle.fw_snapshot.specs.Withdrawals.{HasPost}
use Rattle.fw_snapshot.specs.declared.verdict.Verdict.TheVariants as verdict
use Rattle.fw_snapshot.proofs.AddingFacts.{commitments_of_more}
use Rattle.fw_snapshot.proofs.CountingFacts.{rows_withdrawn}
use Rattle.fw_snapshot.proofs.EntryFacts.{policy_of_more}
use Rattle.fw_snapshot.proofs.LegalFacts.{once}
use Rattle.fw_snapshot.proofs.RuleFacts.{accepted_withdrawal, not_withdrawn}
use Rattle.fw_snapshot.proofs.WithdrawnFacts.{rows_of_more, withdraws_or_none}

-- a list of which each element gives the same, and one of which all but one do, which gives nothing
like : (f g : EntryValue → List Charge) (es : List EntryValue) → ((i : ℕ) (x : EntryValue) → slice_get es i ≡ Some x → f x ≡ g x) → flat_map f es ≡ flat_map g es
like f g [] same = refl
like f g (x ∷ es) same = ap (λ l. l ++ flat_map f es) (same 0 x refl) ∙ ap (λ l. g x ++ l) (like f g es (λ i. same (suc i)))

without_one : (f g : EntryValue → List Charge) (es : List EntryValue) (place : ℕ) (one : EntryValue) → slice_get es place ≡ Some one → f one ≡ []
    → ((i : ℕ) (x : EntryValue) → slice_get es i ≡ Some x → (i ≡ place → ⊥) → f x ≡ g x)
    → (first : List Charge) × (last : List Charge) × (flat_map g es ≡ first ++ (g one ++ last)) × (flat_map f es ≡ first ++ last)
without_one f g [] place one at none others = absurd (cc)
without_one f g (x ∷ es) zero one at none others =
    let same : x ≡ one = cc in
    let rest = like f g es (λ i y there. others (suc i) y there (λ e. absurd (omega (arith, e)))) in
    ([], flat_map g es, ap (λ y. g y ++ flat_map g es) same, ap (λ l. l ++ flat_map f es) (ap f same ∙ none) ∙ rest)
without_one f g (x ∷ es) (suc place) one at none others =
    let rest = without_one f g es place one at none (λ i y there other. others (suc i) y there (λ e. other (omega (arith, e)))) in
    let here = others 0 x refl (λ e. absurd (omega (arith, e))) in (
      g x ++ rest.0,
      rest.1,
      ap (λ l. g x ++ l) rest.2 ∙ sym (append_assoc (g x) rest.0 (g one ++ rest.1)),
      ap (λ l. l ++ flat_map f es) here ∙ ap (λ l. g x ++ l) rest.3 ∙ sym (append_assoc (g x) rest.0 rest.1),
    )

-- an entry that stands elsewhere isn't the one that is named
abbrev names : EntryValue → ℕ → EntryValue → Bool
names e n x = bytes_eq e.origin x.origin && (x.seq == n)

other_entry : (es : List EntryValue) (e : EntryValue) (n : ℕ) → IsLegal es → (has : HasPost es e.origin n) → (i : ℕ) (x : EntryValue) → slice_get es i ≡ Some x → (i ≡ has.place → ⊥) → names e n x ≡ false
other_entry es e n legal has i x at other = by (names e n x) refl
  where
    by : (t : Bool) → names e n x ≡ t → names e n x ≡ false
    by false is = is
    by true is =
        let parts = and_parts (bytes_eq e.origin x.origin) (x.seq == n) is in
        let origin : x.origin ≡ has.entry.origin = sym ((bytes_eq-Decides e.origin x.origin).0 parts.0) ∙ sym has.same_origin in
        let number : x.seq ≡ has.entry.seq = (Decides-eqb x.seq n).0 parts.1 ∙ sym has.same_number in
        absurd (other (once es legal i has.place x has.entry at has.stands origin number))

named : (es : List EntryValue) (e : EntryValue) (n : ℕ) → (has : HasPost es e.origin n) → names e n has.entry ≡ true
named es e n has =
    let origin : bytes_eq e.origin has.entry.origin ≡ true = (bytes_eq-Decides e.origin has.entry.origin).1 (sym has.same_origin) in
    let number : (has.entry.seq == n) ≡ true = (Decides-eqb has.entry.seq n).1 has.same_number in
    rw (origin, number) refl

pub one_post : (es : List EntryValue) (e : EntryValue) (n : ℕ) → IsLegal es → judged es e ≡ verdict.Accept → e.command ≡ withdraw n → (has : HasPost es e.origin n)
    → (first : List Charge) × (last : List Charge) × (rows_of es ≡ first ++ (has.rows ++ last)) × (rows_of (es ++ e ∷ []) ≡ first ++ last)
unfolding rows_of
one_post es e n legal h is has =
    let f = λ (x : EntryValue). if names e n x then [] else counting es x in
    let none : f has.entry ≡ [] = ap (λ b. if b then [] else counting es has.entry) (named es e n has) in
    let others : (i : ℕ) (x : EntryValue) → slice_get es i ≡ Some x → (i ≡ has.place → ⊥) → f x ≡ counting es x =
    λ i x at other. ap (λ b. if b then [] else counting es x) (other_entry es e n legal has i x at other) in
    let parts = without_one f (counting es) es has.place has.entry has.stands none others in
    let counts : is_withdrawn es has.entry.origin has.entry.seq ≡ false =
    ap (λ o. is_withdrawn es o has.entry.seq) has.same_origin ∙ ap (is_withdrawn es e.origin) has.same_number ∙ not_withdrawn es e.origin n (accepted_withdrawal es e n h is).1 in
    let rows : counting es has.entry ≡ has.rows = ap (λ b. if b then [] else posted has.entry.command) counts ∙ ap posted has.posts in
    (parts.0, parts.1, parts.2 ∙ ap (λ l. parts.0 ++ (l ++ parts.1)) rows, rows_withdrawn es e n is ∙ parts.3)

-- any other command puts its rows behind those that count
withdraws_none : (c : CommandValue) → ((n : ℕ) → c ≢ withdraw n) → (n : ℕ) → withdraws n c ≡ false
withdraws_none c other n =
    elim (withdraws_or_none c) [
      | inl found ↦ absurd (other found.0 found.1)
      | inr none ↦ none n
    ]

pub others_behind : (es : List EntryValue) (e : EntryValue) → IsLegal es → judged es e ≡ verdict.Accept → ((n : ℕ) → e.command ≢ withdraw n) → rows_of (es ++ e ∷ []) ≡ rows_of es ++ posted e.command
others_behind es e legal h other = rows_of_more es e legal h (withdraws_none e.command other)

-- neither the commitments nor the policy change
pub no_more_withdrawn : (es : List EntryValue) (e : EntryValue) (n : ℕ) → IsLegal es → judged es e ≡ verdict.Accept → e.command ≡ withdraw n
    → (commitments_of (es ++ e ∷ []) ≡ commitments_of es) × (policy_of (es ++ e ∷ []) ≡ policy_of es)
no_more_withdrawn es e n legal h is =
    (commitments_of_more es e legal h ∙ ap (commitments_after (commitments_of es)) is, policy_of_more es e ∙ ap (policy_after (policy_of es)) is)
