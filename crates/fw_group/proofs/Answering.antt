-- The answers to a group, place by place.
use Rattle.std.proofs.Common.{◌≡◌, ◌⊎◌, inl, inr, ◌≤◌, ◌<◌, ℕ, ◌+◌, ◌-◌, cond, Bool, true, false, zero, suc, List, [], ◌∷◌, ◌++◌, length, take, get_or, refl, ap, sym, subst, ◌∙◌, arith, length-append}
use Rattle.std.specs.List.{count_by}
use Rattle.std.specs.Prelude.{slice_get, Some, Result, Ok, Err, IfOk, IfErr, IsErrOf, All, map}
use Rattle.std.specs.declared.vec.Vec.{Vec}
use Rattle.std.specs.declared.alloc.Global.{Global}
use Rattle.std.proofs.Math.ListN.{get_or-append}
use Rattle.std.proofs.Math.Seq.{get_or-append_seam}
use Rattle.std.proofs.lemmas.List.Sums.{sum_by-cons}
use Rattle.fw_entry.specs.Entry.{EntryValue}
use Rattle.fw_snapshot.specs.declared.verdict.Verdict.{Verdict}
use Rattle.fw_snapshot.specs.declared.verdict.Verdict.TheVariants as verdict
use Rattle.fw_snapshot.specs.Judging.{judged}
use Rattle.fw_snapshot.specs.Verdicts.{is_accept, kept_by, taken, verdicts_on, accepted_of, with_more}
use Rattle.fw_group.specs.declared.answer.Answer.{Answer}
use Rattle.fw_snapshot.specs.History.{History}
use Rattle.fw_snapshot.proofs.VerdictFacts.{as_many}
use Rattle.fw_recover.specs.declared.fault.StoreFault.{StoreFault}
use Rattle.fw_recover.specs.declared.fault.StoreFault.TheVariants.{OldSide, TooLarge}
use Rattle.fw_recover.specs.Committing.{PreparedState, prepared_on, IsCommitFault}
use Rattle.fw_group.specs.declared.inbox.Item.{Item}
use Rattle.fw_group.specs.Items.{entries_of}
use Rattle.fw_group.specs.Answers.{told, answers_on, accepted_in, refusal, for_each, IsGroupFault, IsOutcome, AnswerIs, AnswersAre}
use Rattle.fw_group.proofs.Items.{length_entries}

count-cons : (v : Verdict) (vs : List Verdict) → accepted_in (v ∷ vs) ≡ cond (is_accept v) 1 0 + accepted_in vs
count-cons v vs = sum_by-cons (λ (w : Verdict). cond (is_accept w) 1 0) v vs

length_kept : (v : Verdict) (e : EntryValue) → length (kept_by v e) ≡ cond (is_accept v) 1 0
length_kept verdict.Accept e = refl
length_kept (verdict.Already n) e = refl
length_kept (verdict.Gap n) e = refl
length_kept (verdict.Refused why) e = refl

-- as many are accepted as there are such verdicts
pub accepted_length : (before es : List EntryValue) → length (accepted_of before es) ≡ accepted_in (verdicts_on before es)
unfolding accepted_of verdicts_on
accepted_length before [] = refl
accepted_length before (e ∷ es) =
    let more = accepted_of (before ++ taken before e) es in
    omega (arith, length-append (taken before e) more, length_kept (judged before e) e, accepted_length (before ++ taken before e) es, count-cons (judged before e) (verdicts_on (before ++ taken before e) es))

-- the answer at a place
pub answer_at : {F : Type 0} (front : F) (before es : List EntryValue) (place : ℕ) (d : Verdict) → place < length es
    → slice_get (answers_on front before es) place ≡ Some (told front (length before + accepted_in (take place (verdicts_on before es))) (get_or (verdicts_on before es) place d))
unfolding answers_on verdicts_on
answer_at front before [] place d within = absurd (omega (arith, within))
answer_at front before (e ∷ es) zero d within =
    let same : length before ≡ length before + 0 = omega arith in
    ap (λ (n : ℕ). Some (told front n (judged before e))) same
answer_at front before (e ∷ es) (suc place) d within =
    let vs = verdicts_on (before ++ taken before e) es in
    let here = answer_at front (before ++ taken before e) es place d (omega (arith, within)) in
    let same : length (before ++ taken before e) + accepted_in (take place vs) ≡ length before + accepted_in (judged before e ∷ take place vs) =
    omega (arith, length-append before (taken before e), length_kept (judged before e) e, count-cons (judged before e) (take place vs)) in
    here ∙ ap (λ (n : ℕ). Some (told front n (get_or vs place d))) same

-- those before a place, and the one there, are among all of them
pub accepted_before : (vs : List Verdict) (place : ℕ) (d : Verdict) → place < length vs → accepted_in (take place vs) + cond (is_accept (get_or vs place d)) 1 0 ≤ accepted_in vs
accepted_before [] place d within = absurd (omega (arith, within))
accepted_before (v ∷ vs) zero d within = omega (arith, count-cons v vs)
accepted_before (v ∷ vs) (suc place) d within =
    omega (arith, count-cons v vs, count-cons v (take place vs), accepted_before vs place d (omega (arith, within)))

-- the answer of a verdict, where so many entries of the front are taken as those before it
pub one_answer : {F : Type 0} (list : F → List EntryValue) (front : F) (es : List EntryValue) (vs : List Verdict) (place at : ℕ) (v : Verdict) (a : Answer F)
    → place < length es → at ≡ length (list front) - accepted_in vs + accepted_in (take place vs) → v ≡ get_or vs place v → a ≡ told front at v
    → (before : List EntryValue) → vs ≡ verdicts_on before es → list front ≡ before ++ accepted_of before es → slice_get (answers_on front before es) place ≡ Some a
one_answer list front es vs place at v a within at_is v_is a_is before vs_are front_is =
    let here : length before + accepted_in (take place (verdicts_on before es)) ≡ at =
    omega (
      arith,
      at_is,
      ap length front_is,
      length-append before (accepted_of before es),
      accepted_length before es,
      ap accepted_in vs_are,
      ap (λ (l : List Verdict). accepted_in (take place l)) vs_are,
    ) in
    let same : get_or (verdicts_on before es) place v ≡ v = sym (v_is ∙ ap (λ (l : List Verdict). get_or l place v) vs_are) in
    answer_at front before es place v within ∙ (λ j. Some (told front (here j) (same j))) ∙ ap Some (sym a_is)

-- ---- lists, place by place

pub each_more : {X : Type 0} (P : ℕ → X → Type 0) (xs : List X) (x : X) → ((k : ℕ) (a : X) → slice_get xs k ≡ Some a → P k a) → P (length xs) x
    → (k : ℕ) (a : X) → slice_get (xs ++ x ∷ []) k ≡ Some a → P k a
each_more P [] x h p zero a e = let same : x ≡ a = cc in subst (P 0) same p
each_more P [] x h p (suc k) a e = cc
each_more P (y ∷ ys) x h p zero a e = h zero a e
each_more P (y ∷ ys) x h p (suc k) a e = each_more (λ n. P (suc n)) ys x (λ n b. h (suc n) b) p k a e

pub all_front : {X : Type 0} (P : X → Type 0) (xs : List X) (x : X) → All P (xs ++ x ∷ []) → All P xs
all_front P xs x h k d lt = subst P (get_or-append xs (x ∷ []) d k lt) (h k d (omega (arith, length-append xs (x ∷ []))))

pub all_last : {X : Type 0} (P : X → Type 0) (xs : List X) (x : X) → All P (xs ++ x ∷ []) → P x
all_last P xs x h = subst P (get_or-append_seam xs x [] x) (h (length xs) x (omega (arith, length-append xs (x ∷ []))))

-- two lists of one length are the same where each element of the one stands in the other at its place
same_places : {X : Type 0} (xs ys : List X) → length xs ≡ length ys → ((k : ℕ) (x : X) → slice_get xs k ≡ Some x → slice_get ys k ≡ Some x) → xs ≡ ys
same_places [] [] long each = refl
same_places [] (y ∷ ys) long each = absurd (omega (arith, long))
same_places (x ∷ xs) [] long each = absurd (omega (arith, long))
same_places (x ∷ xs) (y ∷ ys) long each =
    let there : Some y ≡ Some x = each 0 x refl in
    let same : x ≡ y = cc in
    let rest = same_places xs ys (omega (arith, long)) (λ k z at. each (suc k) z at) in
    (λ j. same j ∷ rest j)

all_alike : {F : Type 0} (answers : List (Answer F)) (items : List Item) (b : Answer F) → length answers ≡ length items → ((k : ℕ) (a : Answer F) → slice_get answers k ≡ Some a → a ≡ b) → answers ≡ for_each b items
all_alike [] [] b long each = refl
all_alike [] (y ∷ items) b long each = absurd (omega (arith, long))
all_alike (a ∷ answers) [] b long each = absurd (omega (arith, long))
all_alike (a ∷ answers) (y ∷ items) b long each =
    let rest = all_alike answers items b (omega (arith, long)) (λ k z at. each (suc k) z at) in
    (λ j. each 0 a refl j ∷ rest j)

length_answers : {F : Type 0} (front : F) (before es : List EntryValue) → length (answers_on front before es) ≡ length es
unfolding answers_on
length_answers front before [] = refl
length_answers front before (e ∷ es) = ap suc (length_answers front (before ++ taken before e) es)

-- what is answered at each place are the answers of the group
pub all_answers : {F : Type 0} (list : F → List EntryValue) (items : List Item) (outcome : Result (Vec Verdict Global) StoreFault) (front : F) (answers : List (Answer F))
    → length answers ≡ length items → ((k : ℕ) (a : Answer F) → slice_get answers k ≡ Some a → AnswerIs list items outcome front k a) → AnswersAre list items outcome front answers
all_answers list items (Ok v) front answers long each = λ before vs_are front_is.
    same_places answers (answers_on front before (entries_of items)) (long ∙ sym (length_answers front before (entries_of items) ∙ length_entries items)) (λ k a at. each k a at before vs_are front_is)
all_answers list items (Err fault) front answers long each = all_alike answers items (refusal fault) long each

alike_more : {F : Type 0} (b : Answer F) (items : List Item) (n : ℕ) → n < length items → for_each b (take (suc n) items) ≡ for_each b (take n items) ++ b ∷ []
alike_more b [] n within = absurd (omega (arith, within))
alike_more b (x ∷ items) zero within = refl
alike_more b (x ∷ items) (suc n) within = ap (λ (l : List (Answer _)). b ∷ l) (alike_more b items n (omega (arith, within)))

pub one_more_alike : {F : Type 0} (b : Answer F) (items : List Item) (n : ℕ) → n < length items → for_each b (take (n + 1) items) ≡ for_each b (take n items) ++ b ∷ []
one_more_alike b items n within =
    let next : n + 1 ≡ suc n = omega arith in
    ap (λ (k : ℕ). for_each b (take k items)) next ∙ alike_more b items n within

-- ---- what a store answered

group_fault : (fault : StoreFault) → IsCommitFault fault → (fault ≡ OldSide → ⊥) → (fault ≡ TooLarge → ⊥) → IsGroupFault fault
group_fault fault (inl is) of_form fits = subst IsGroupFault (sym is) tt
group_fault fault (inr (inl is)) of_form fits = subst IsGroupFault (sym is) tt
group_fault fault (inr (inr (inl is))) of_form fits = absurd (of_form is)
group_fault fault (inr (inr (inr (inl is)))) of_form fits = absurd (fits is)
group_fault fault (inr (inr (inr (inr is)))) of_form fits = subst IsGroupFault (sym is) tt

-- the front has the entries that the verdicts accept
pub group_outcome : (C : Vec Verdict Global → Type 0) (h : History) (items : List Item) (next : History) (p : PreparedState) (result : Result (Vec Verdict Global) StoreFault)
    → p ≡ prepared_on h (entries_of items) → next ≡ with_more h (accepted_of h.entries (entries_of items)) → IfOk result (λ v. (v.items ≡ p.verdicts) × C v)
    → IfErr result IsCommitFault → (IsErrOf result OldSide → ⊥) → (IsErrOf result TooLarge → ⊥) → IsOutcome (λ (k : History). k.entries) items next result
group_outcome C h items next p (Ok v) prepared next_is done which of_form fits =
    let es = entries_of items in
    let are : v.items ≡ verdicts_on h.entries es = done.0 ∙ ap (λ (q : PreparedState). q.verdicts) prepared in (
      ap (λ (l : List Verdict). length l) are ∙ as_many h.entries es ∙ length_entries items,
      omega (
        arith,
        ap accepted_in are,
        accepted_length h.entries es,
        length-append h.entries (accepted_of h.entries es),
        ap (λ (k : History). length k.entries) next_is,
      ),
    )
group_outcome C h items next p (Err fault) prepared next_is done which of_form fits = group_fault fault which (λ is. of_form (ap Err is)) (λ is. fits (ap Err is))
