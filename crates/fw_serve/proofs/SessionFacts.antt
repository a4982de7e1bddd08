-- Sessions, one after the other.
use Rattle.std.proofs.Common.{◌≡◌, ◌⊎◌, ◌∙◌, ◌+◌, ◌≤◌, ◌++◌, ◌∷◌, [], ℕ, zero, suc, List, Some, arith, inl, inr, refl, sym, ap, subst, drop, take, slice_get}
use Rattle.std.proofs.lemmas.List.{take_all}
use Rattle.fw_entry.specs.Entry.{EntryValue}
use Rattle.fw_recover.proofs.Places.{stands_one}
use Rattle.fw_recover.proofs.Standing.{no_more}
use Rattle.fw_recover.specs.Committing.{HasAnswered, with_first}
use Rattle.fw_recover.specs.Stands.{StandsFor, StandsForEither}
use Rattle.fw_snapshot.proofs.VerdictFacts.{accepted_in_parts}
use Rattle.fw_snapshot.specs.History.{History}
use Rattle.fw_snapshot.specs.Verdicts.{accepted_of, with_more}
use Rattle.fw_serve.specs.Sessions.{HasKept, SessionValue, PassesThrough}
use Rattle.fw_serve.specs.Whole.{IsWhole, ReportsAddUp}
use Rattle.fw_serve.proofs.LeftFacts.{stands_whole}
use Rattle.fw_serve.proofs.MoveFacts.{more_twice}
use Rattle.fw_serve.proofs.WholeFacts.{whole_adds_up}

-- ---- what a session leaves

-- one entry was in flight
one_or_none : (answered first : ℕ) → answered ≤ first → first ≤ answered + 1 → (first ≡ answered) ⊎ (first ≡ answered + 1)
one_or_none zero zero low high = inl refl
one_or_none zero (suc zero) low high = inr refl
one_or_none zero (suc (suc first)) low high = absurd (omega (arith, high))
one_or_none (suc answered) zero low high = absurd (omega (arith, low))
one_or_none (suc answered) (suc first) low high = elim (one_or_none answered first (omega (arith, low)) (omega (arith, high))) [
  | inl same ↦ inl (omega (arith, same))
  | inr more ↦ inr (omega (arith, more))
]

pub kept_single : (before : History) (s : SessionValue) → s.in_flight ≡ 1 → HasAnswered before s.entries s.answered s.image → HasKept before s
kept_single before s one has = record {
  first = has.first;
  none_or_all = subst (λ (n : ℕ). (has.first ≡ s.answered) ⊎ (has.first ≡ s.answered + n)) (sym one) (one_or_none s.answered has.first has.all has.one_more);
  stands = has.stands;
}

take_sum : (n m : ℕ) (es : List EntryValue) → take (n + m) es ≡ take n es ++ take m (drop n es)
take_sum zero m es = let on : zero + m ≡ m = omega arith in ap (λ (k : ℕ). take k es) on
take_sum (suc n) m [] = let on : suc n + m ≡ suc (n + m) = omega arith in ap (λ (k : ℕ). take k []) on ∙ sym (take_all m [] (omega arith))
take_sum (suc n) m (e ∷ es) = let on : suc n + m ≡ suc (n + m) = omega arith in ap (λ (k : ℕ). take k (e ∷ es)) on ∙ ap (λ (l : List EntryValue). e ∷ l) (take_sum n m es)

group_first : (before now : History) (n m : ℕ) (es : List EntryValue) → now ≡ with_first before n es → with_more now (accepted_of now.entries (take m (drop n es))) ≡ with_first before (n + m) es
group_first before now n m es is =
    ap (λ (h : History). with_more h (accepted_of h.entries (take m (drop n es)))) is
    ∙ more_twice before (accepted_of before.entries (take n es)) (accepted_of (before.entries ++ accepted_of before.entries (take n es)) (take m (drop n es)))
    ∙ ap (λ (l : List EntryValue). with_more before l) (sym (accepted_in_parts before.entries (take n es) (take m (drop n es))))
    ∙ ap (λ (l : List EntryValue). with_more before (accepted_of before.entries l)) (sym (take_sum n m es))

-- a group was in flight
pub kept_group : (before now : History) (s : SessionValue) → now ≡ with_first before s.answered s.entries
    → StandsForEither now (accepted_of now.entries (take s.in_flight (drop s.answered s.entries))) s.image → HasKept before s
kept_group before now s is (inl stands) = record { first = s.answered; none_or_all = inl refl; stands = subst (λ (h : History). StandsFor h s.image) is stands }
kept_group before now s is (inr stands) = record {
  first = s.answered + s.in_flight;
  none_or_all = inr refl;
  stands = subst (λ (h : History). StandsFor h s.image) (group_first before now s.answered s.in_flight s.entries is) stands;
}

-- ---- sessions

-- what was added to a warehouse that has some first entries of a session
behind_first : (before found after : History) (n : ℕ) (entries more : List EntryValue) → found ≡ with_first before n entries → after ≡ with_more found more
    → after ≡ with_more before (accepted_of before.entries (take n entries) ++ more)
behind_first before found after n entries more same grown =
    grown ∙ ap (λ (h : History). with_more h more) same ∙ more_twice before (accepted_of before.entries (take n entries)) more

grown_through : (before after : History) (sessions : List SessionValue) → PassesThrough before sessions after → (more : List EntryValue) × (after ≡ with_more before more)
unfolding PassesThrough
grown_through before after [] same = ([], same ∙ no_more before)
grown_through before after (s ∷ sessions) passed =
    let (found, left, stands, rest) = passed in
    let later = grown_through found after sessions rest in
    let same = stands_one s.image found (with_first before left.first s.entries) stands left.stands in
    (accepted_of before.entries (take left.first s.entries) ++ later.0, behind_first before found after left.first s.entries later.0 same later.1)

-- what is opened at the end has what was there when the session began, and of its entries each that was answered, and none or all of those in flight
abbrev Keeps : History → List SessionValue → History → SessionValue → Type 0
Keeps before earlier after s =
    (middle : History) × (n : ℕ) × (more : List EntryValue) × PassesThrough before earlier middle × ((n ≡ s.answered) ⊎ (n ≡ s.answered + s.in_flight))
    × (after ≡ with_more middle (accepted_of middle.entries (take n s.entries) ++ more))

pub kept_through : (before after : History) (sessions : List SessionValue) (place : ℕ) (s : SessionValue) → PassesThrough before sessions after → slice_get sessions place ≡ Some s
    → Keeps before (take place sessions) after s
unfolding PassesThrough
kept_through before after [] place s passed at = absurd (cc)
kept_through before after (x ∷ sessions) zero s passed at =
    let (found, left, stands, rest) = passed in
    let later = grown_through found after sessions rest in
    let same = stands_one x.image found (with_first before left.first x.entries) stands left.stands in
    let is : x ≡ s = cc in
    subst (λ (y : SessionValue). Keeps before [] after y) is
    (before, left.first, later.0, refl, left.none_or_all, behind_first before found after left.first x.entries later.0 same later.1)
kept_through before after (x ∷ sessions) (suc place) s passed at =
    let (found, left, stands, rest) = passed in
    let (middle, n, more, earlier, which, is) = kept_through found after sessions place s rest at in
    (middle, n, more, (found, left, stands, earlier), which, is)

whole_through : (before after : History) (sessions : List SessionValue) → IsWhole before.entries → PassesThrough before sessions after → IsWhole after.entries
unfolding PassesThrough
whole_through before after [] whole same = subst (λ (h : History). IsWhole h.entries) (sym same) whole
whole_through before after (s ∷ sessions) whole passed =
    let (found, left, stands, rest) = passed in
    whole_through found after sessions (stands_whole found s.image stands) rest

pub adds_up_through : (before after : History) (sessions : List SessionValue) → IsWhole before.entries → PassesThrough before sessions after → IsWhole after.entries × ReportsAddUp after.entries
adds_up_through before after sessions whole passed =
    let last = whole_through before after sessions whole passed in
    (last, whole_adds_up after.entries last)
