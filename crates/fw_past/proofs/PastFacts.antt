-- The first entries of a list.
use Rattle.std.proofs.Common.{◌≡◌, ◌≤◌, ◌∙◌, ◌++◌, ℕ, zero, suc, List, [], ◌∷◌, length, take, drop, refl, sym, ap, subst, arith, append-nil, append_assoc}
use Rattle.std.proofs.lemmas.List.{take-append-drop}
use Rattle.fw_entry.specs.Entry.{EntryValue}
use Rattle.fw_past.specs.Past.{as_of}
use Rattle.fw_snapshot.specs.History.{History}
use Rattle.fw_snapshot.specs.Judging.{IsLegal, IsLegalAfter, judged}
use Rattle.fw_snapshot.specs.Verdicts.{with_more}
use Rattle.fw_snapshot.specs.declared.verdict.Verdict.TheVariants as verdict

-- the first of a list are those of its front, where that is as long
take_front : (count : ℕ) (es later : List EntryValue) → count ≤ length es → take count (es ++ later) ≡ take count es
take_front zero es later few = refl
take_front (suc count) [] later few = absurd (omega arith)
take_front (suc count) (e ∷ es) later few = ap (λ (l : List EntryValue). e ∷ l) (take_front count es later (omega arith))

take_whole : (es : List EntryValue) → take (length es) es ≡ es
take_whole [] = refl
take_whole (e ∷ es) = ap (λ (l : List EntryValue). e ∷ l) (take_whole es)

pub past_stays : (count : ℕ) (h : History) (later : List EntryValue) → count ≤ length h.entries → as_of count (with_more h later) ≡ as_of count h
past_stays count h later few = ap (λ (es : List EntryValue). record { currency = h.currency; entries = es }) (take_front count h.entries later few)

pub past_now : (h : History) → as_of (length h.entries) h ≡ h
past_now h = ap (λ (es : List EntryValue). record { currency = h.currency; entries = es }) (take_whole h.entries)

pub past_then : (h : History) (later : List EntryValue) → as_of (length h.entries) (with_more h later) ≡ h
past_then h later = past_stays (length h.entries) h later (omega arith) ∙ past_now h

-- the front of a legal list is legal, and what follows it is legal after it
parted : (before first second : List EntryValue) → IsLegalAfter before (first ++ second) → IsLegalAfter before first × IsLegalAfter (before ++ first) second
unfolding IsLegalAfter
parted before [] second legal = (tt, subst (λ (l : List EntryValue). IsLegalAfter l second) (sym (append-nil before)) legal)
parted before (e ∷ first) second legal =
    let rest = parted (before ++ e ∷ []) first second legal.1 in
    ((legal.0, rest.0), subst (λ (l : List EntryValue). IsLegalAfter l second) (append_assoc before (e ∷ []) first) rest.1)

pub past_legal : (count : ℕ) (h : History) → IsLegal h.entries → IsLegal (as_of count h).entries
past_legal count h legal =
    (parted [] (take count h.entries) (drop count h.entries) (subst IsLegal (sym (take-append-drop count h.entries)) legal)).0

-- the next entry of a legal list is accepted after those before it
pub next_accepted : (front rest es : List EntryValue) (e : EntryValue) → IsLegal es → es ≡ front ++ e ∷ rest → judged front e ≡ verdict.Accept
unfolding IsLegalAfter
next_accepted front rest es e legal is = (parted [] front (e ∷ rest) (subst IsLegal is legal)).1.0
