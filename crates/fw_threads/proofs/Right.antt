-- The answers to a group are right of its entries.
use Rattle.std.proofs.Common.{◌≡◌, ℕ, ◌+◌, ◌-◌, zero, suc, List, [], ◌∷◌, ◌++◌, length, take, get_or, refl, ap, sym, subst, ◌∙◌, arith, append_assoc, length-append, Some}
use Rattle.std.specs.Prelude.{slice_get}
use Rattle.fw_entry.specs.Entry.{EntryValue}
use Rattle.fw_snapshot.specs.History.{History}
use Rattle.fw_snapshot.specs.Judging.{judged}
use Rattle.fw_snapshot.specs.Verdicts.{taken, kept_by, accepted_of}
use Rattle.fw_snapshot.specs.declared.verdict.Verdict.{Verdict}
use Rattle.fw_snapshot.specs.declared.verdict.Verdict.TheVariants as verdict
use Rattle.fw_group.specs.declared.answer.Answer.{Answer}
use Rattle.fw_group.specs.Answers.{told, answers_on}
use Rattle.fw_threads.specs.Posts.{no_entry}
use Rattle.fw_threads.specs.Told.{IsRight, AreRight}

seam : (xs : List EntryValue) (e : EntryValue) (ys : List EntryValue) → slice_get (xs ++ e ∷ ys) (length xs) ≡ Some e
seam [] e ys = refl
seam (x ∷ xs) e ys = seam xs e ys

front_part : (xs ys : List EntryValue) → take (length xs) (xs ++ ys) ≡ xs
front_part [] ys = refl
front_part (x ∷ xs) ys = ap (λ (l : List EntryValue). x ∷ l) (front_part xs ys)

-- an answer by the verdict on the entries before, where the front has these first, and then the entry if it was accepted
told_right : (front : History) (before rest : List EntryValue) (e : EntryValue) (v : Verdict) → judged before e ≡ v → front.entries ≡ before ++ (kept_by v e ++ rest) → IsRight e (told front (length before) v)
told_right front before rest e verdict.Accept is has =
    let place : length before + 1 - 1 ≡ length before = omega arith in
    (omega arith, ap (λ (n : ℕ). slice_get front.entries n) place ∙ (ap (λ (l : List EntryValue). slice_get l (length before)) has ∙ seam before e rest))
told_right front before rest e (verdict.Already last) is has = (
  ap (λ (l : List EntryValue). judged (take (length before) l) e) has ∙ (ap (λ (l : List EntryValue). judged l e) (front_part before rest) ∙ is),
  omega (arith, ap length has, length-append before rest),
)
told_right front before rest e (verdict.Gap expected) is has = (
  ap (λ (l : List EntryValue). judged (take (length before) l) e) has ∙ (ap (λ (l : List EntryValue). judged l e) (front_part before rest) ∙ is),
  omega (arith, ap length has, length-append before rest),
)
told_right front before rest e (verdict.Refused why) is has = (
  ap (λ (l : List EntryValue). judged (take (length before) l) e) has ∙ (ap (λ (l : List EntryValue). judged l e) (front_part before rest) ∙ is),
  omega (arith, ap length has, length-append before rest),
)

each_right : (front : History) (before es : List EntryValue) → front.entries ≡ before ++ accepted_of before es
    → (k : ℕ) (a : Answer History) → slice_get (answers_on front before es) k ≡ Some a → IsRight (get_or es k no_entry) a
unfolding answers_on accepted_of
each_right front before [] has zero a at = cc
each_right front before [] has (suc k) a at = cc
each_right front before (e ∷ es) has zero a at =
    let same : told front (length before) (judged before e) ≡ a = cc in
    subst (IsRight e) same (told_right front before (accepted_of (before ++ taken before e) es) e (judged before e) refl has)
each_right front before (e ∷ es) has (suc k) a at =
    let next = before ++ taken before e in
    each_right front next es (has ∙ sym (append_assoc before (taken before e) (accepted_of next es))) k a at

length_right : (front : History) (before es : List EntryValue) → length (answers_on front before es) ≡ length es
unfolding answers_on
length_right front before [] = refl
length_right front before (e ∷ es) = ap suc (length_right front (before ++ taken before e) es)

pub answers_right : (front : History) (before es : List EntryValue) → front.entries ≡ before ++ accepted_of before es → AreRight es (answers_on front before es)
answers_right front before es has = (length_right front before es, each_right front before es has)

-- what stands in a beginning stands there in the whole
pub stands_on : {X : Type 0} (xs ys : List X) (k : ℕ) (a : X) → slice_get xs k ≡ Some a → slice_get (xs ++ ys) k ≡ Some a
stands_on [] ys zero a at = cc
stands_on [] ys (suc k) a at = cc
stands_on (x ∷ xs) ys zero a at = at
stands_on (x ∷ xs) ys (suc k) a at = stands_on xs ys k a at
