-- Entries that are sent once more.
use Rattle.std.proofs.Common.{◌≡◌, ◌+◌, ◌≤◌, ◌<◌, ◌∙◌, ℕ, zero, suc, List, [], ◌∷◌, ◌++◌, All, Option, Some, None, ◌⊎◌, inl, inr, Bool, true, false, cond, drop, filter, nat_le, nat_lt, if◌then◌else◌, length, map, take, slice_get, refl, sym, ap, subst, arith}
use Rattle.std.specs.List.{Contains, range_with_len}
use Rattle.std.specs.Str.{bytes_eq}
use Rattle.std.proofs.Math.Seq.{drop-append-add, take-append_seam, take-length}
use Rattle.std.proofs.lemmas.Bool.Decides.{nat_tests}
use Rattle.std.proofs.lemmas.List.{append-nil, append_assoc, map-append}
use Rattle.std.proofs.lemmas.List.Elements.{filter-append, All-head, All-tail, All-weaker, Contains-append_right}
use Rattle.std.proofs.lemmas.Option.{slice_get_within, slice_get-get_or}
use Rattle.std.proofs.lemmas.Slice.Eq.{bytes_eq-Decides}
use Rattle.fw_entry.specs.Entry.{EntryValue}
use Rattle.fw_snapshot.specs.History.{entries_from}
use Rattle.fw_snapshot.specs.Judging.{judged, IsLegal, IsLegalAfter, verdict_on}
use Rattle.fw_snapshot.specs.Verdicts.{is_accept, kept_by, taken, verdicts_on, accepted_of, IsRepeat, IsSending}
use Rattle.fw_snapshot.specs.declared.verdict.Verdict.{Verdict}
use Rattle.fw_snapshot.specs.declared.verdict.Verdict.TheVariants as verdict
use Rattle.fw_snapshot.specs.declared.verdict.Conflict.{Conflict}
use Rattle.fw_snapshot.proofs.EntryFacts.{entries_from_more}
use Rattle.fw_snapshot.proofs.LegalFacts.{accepted_number, counts_before, in_turn, legal_kept, once}
use Rattle.fw_snapshot.proofs.VerdictFacts.{accepted_legal, as_many, verdicts_in_parts, accepted_in_parts, all_accepted}

-- the numbers of an origin
one_from : (origin : List ℕ) (e : EntryValue) (b : Bool) (n : ℕ) → (b ≡ true → e.seq ≡ n + 1)
    → map (λ (e : EntryValue). e.seq) (cond b (e ∷ []) []) ≡ cond b ((n + 1) ∷ []) []
one_from origin e true n number = ap (λ k. k ∷ []) (number refl)
one_from origin e false n number = refl

range_last : (from n : ℕ) → range_with_len from (suc n) ≡ range_with_len from n ++ (from + n) ∷ []
range_last from zero = ap (λ k. k ∷ []) (omega arith)
range_last from (suc n) =
    let moved : (from + 1) + n ≡ from + suc n = omega arith in
    ap (λ l. from ∷ l) (range_last (from + 1) n ∙ ap (λ k. range_with_len (from + 1) n ++ k ∷ []) moved)

range_more : (n : ℕ) (b : Bool) → range_with_len 1 n ++ cond b ((n + 1) ∷ []) [] ≡ range_with_len 1 (n + (if b then 1 else 0))
range_more n true =
    let next : 1 + n ≡ n + 1 = omega arith in
    let count : suc n ≡ n + 1 = omega arith in
    ap (λ k. range_with_len 1 n ++ k ∷ []) (sym next) ∙ sym (range_last 1 n) ∙ ap (range_with_len 1) count
range_more n false =
    let count : n ≡ n + 0 = omega arith in
    append-nil (range_with_len 1 n) ∙ ap (range_with_len 1) count

abbrev Counted : List ℕ → List EntryValue → Type 0
Counted origin es = map (λ e. e.seq) (filter (λ e. bytes_eq origin e.origin) es) ≡ range_with_len 1 (entries_from origin es)

counted_kept : (origin : List ℕ) (es : List EntryValue) (e : EntryValue) → Counted origin es → judged es e ≡ verdict.Accept → Counted origin (es ++ e ∷ [])
counted_kept origin es e counted h =
    let is_from = λ (e : EntryValue). bytes_eq origin e.origin in
    let n = entries_from origin es in
    let number : bytes_eq origin e.origin ≡ true → e.seq ≡ n + 1 =
    λ same. accepted_number es e h ∙ ap (λ o. entries_from o es + 1) (sym ((bytes_eq-Decides origin e.origin).0 same)) in
    let split = filter-append is_from es (e ∷ []) in
    let parts = ap (map (λ (e : EntryValue). e.seq)) split ∙ map-append (λ (e : EntryValue). e.seq) (filter is_from es) (cond (bytes_eq origin e.origin) (e ∷ []) []) in
    parts
    ∙ ap (λ l. l ++ map (λ (e : EntryValue). e.seq) (cond (bytes_eq origin e.origin) (e ∷ []) [])) counted
    ∙ ap (λ l. range_with_len 1 n ++ l) (one_from origin e (bytes_eq origin e.origin) n number)
    ∙ range_more n (bytes_eq origin e.origin)
    ∙ ap (range_with_len 1) (sym (entries_from_more origin es e))

none_from : (origin : List ℕ) → Counted origin []
unfolding entries_from
none_from origin = refl

pub numbers : (es : List EntryValue) → IsLegal es → (origin : List ℕ) → map (λ e. e.seq) (filter (λ e. bytes_eq origin e.origin) es) ≡ range_with_len 1 (entries_from origin es)
numbers es legal origin = legal_kept (Counted origin) (counted_kept origin) [] es (none_from origin) legal

-- a repeat has no number above the last of its origin
repeat_low : (es : List EntryValue) (e : EntryValue) → IsLegal es → IsRepeat es e → e.seq ≤ entries_from e.origin es
repeat_low es e legal repeat =
    let number = in_turn es legal repeat.place repeat.first repeat.stands in
    let counted = counts_before es repeat.place (length es) repeat.first repeat.stands (slice_get_within es repeat.place repeat.first repeat.stands) in
    let whole : entries_from repeat.first.origin (take (length es) es) ≡ entries_from repeat.first.origin es = ap (entries_from repeat.first.origin) (take-length es) in
    let own : entries_from repeat.first.origin es ≡ entries_from e.origin es = ap (λ o. entries_from o es) repeat.same_origin in
    let same = repeat.same_number in
    omega arith

already : (low : Bool) (m : ℕ) (rest : Verdict) → low ≡ true → (if low then verdict.Already m else rest) ≡ verdict.Already m
already true m rest h = refl
already false m rest h = absurd (cc)

pub repeat_judged : (es : List EntryValue) (e : EntryValue) → IsLegal es → IsRepeat es e → judged es e ≡ verdict.Already (entries_from e.origin es)
unfolding judged
repeat_judged es e legal repeat =
    let low = repeat_low es e legal repeat in
    let test : nat_le e.seq (entries_from e.origin es) ≡ true = grind (arith, nat_tests) in
    already (nat_le e.seq (entries_from e.origin es)) _ _ test

-- an entry that was answered as a repeat is one
low_number : (low high : Bool) (m n last : ℕ) (rest : Option Conflict) → (if low then verdict.Already m else (if high then verdict.Gap n else verdict_on rest)) ≡ verdict.Already last → (low ≡ true) × (last ≡ m)
low_number true high m n last rest h = (refl, cc)
low_number false true m n last rest h = absurd (cc)
low_number false false m n last None h = absurd (cc)
low_number false false m n last (Some why) h = absurd (cc)

repeat_behind : (x : EntryValue) (es : List EntryValue) (e : EntryValue) → IsRepeat es e → IsRepeat (x ∷ es) e
repeat_behind x es e r = record { place = suc r.place; first = r.first; stands = r.stands; same_origin = r.same_origin; same_number = r.same_number }

found_here : (x : EntryValue) (es : List EntryValue) (e : EntryValue) → x.origin ≡ e.origin → x.seq ≡ e.seq → IsRepeat (x ∷ es) e
found_here x es e origin number = record { place = 0; first = x; stands = refl; same_origin = origin; same_number = number }

next_or_later : (last seq : ℕ) → last < seq → (last + 1 ≡ seq) ⊎ (last + 1 < seq)
next_or_later last seq above = grind arith

found_or_later : (x : EntryValue) (es : List EntryValue) (e : EntryValue) (last : ℕ) → x.origin ≡ e.origin → x.seq ≡ last + 1 → (last + 1 < e.seq → IsRepeat es e)
    → (last + 1 ≡ e.seq) ⊎ (last + 1 < e.seq) → IsRepeat (x ∷ es) e
found_or_later x es e last origin number later (inl next) = found_here x es e origin (number ∙ next)
found_or_later x es e last origin number later (inr above) = repeat_behind x es e (later above)

found_first : (first : List EntryValue) (x : EntryValue) (es : List EntryValue) (e : EntryValue) (b : Bool) → bytes_eq e.origin x.origin ≡ b → judged first x ≡ verdict.Accept
    → entries_from e.origin first < e.seq → (entries_from e.origin (first ++ x ∷ []) < e.seq → IsRepeat es e) → IsRepeat (x ∷ es) e
found_first first x es e true same h above later =
    let origin : e.origin ≡ x.origin = (bytes_eq-Decides e.origin x.origin).0 same in
    let last = entries_from e.origin first in
    let number : x.seq ≡ last + 1 = accepted_number first x h ∙ ap (λ o. entries_from o first + 1) (sym origin) in
    let count : entries_from e.origin (first ++ x ∷ []) ≡ last + 1 = entries_from_more e.origin first x ∙ ap (λ b. last + (if b then 1 else 0)) same in
    found_or_later x es e last (sym origin) number (λ above. later (omega arith)) (next_or_later last e.seq above)
found_first first x es e false same h above later =
    let last = entries_from e.origin first in
    let count : entries_from e.origin (first ++ x ∷ []) ≡ last + 0 = entries_from_more e.origin first x ∙ ap (λ b. last + (if b then 1 else 0)) same in
    repeat_behind x es e (later (omega arith))

pub found : (first es : List EntryValue) (e : EntryValue) → IsLegalAfter first es → entries_from e.origin first < e.seq → e.seq ≤ entries_from e.origin (first ++ es) → IsRepeat es e
unfolding IsLegalAfter
found first [] e legal above low = absurd (omega (arith, ap (entries_from e.origin) (append-nil first)))
found first (x ∷ es) e legal above low =
    let later : entries_from e.origin (first ++ x ∷ []) < e.seq → IsRepeat es e = λ above. found (first ++ x ∷ []) es e legal.1 above (rw append_assoc low) in
    found_first first x es e (bytes_eq e.origin x.origin) refl legal.0 above later

none_yet : (origin : List ℕ) → entries_from origin [] ≡ 0
unfolding entries_from
none_yet origin = refl

pub already_low : (es : List EntryValue) (e : EntryValue) (last : ℕ) → judged es e ≡ verdict.Already last → (e.seq ≤ entries_from e.origin es) × (last ≡ entries_from e.origin es)
unfolding judged
already_low es e last h =
    let parts = low_number (nat_le e.seq (entries_from e.origin es)) (nat_lt (entries_from e.origin es + 1) e.seq) _ _ last _ h in
    let test : nat_le e.seq (entries_from e.origin es) ≡ true = parts.0 in
    let low : e.seq ≤ entries_from e.origin es = grind (arith, nat_tests) in
    (low, parts.1)

pub already_repeat : (es : List EntryValue) (e : EntryValue) (last : ℕ) → IsLegal es → 0 < e.seq → judged es e ≡ verdict.Already last → IsRepeat es e × (last ≡ entries_from e.origin es)
already_repeat es e last legal some h =
    let parts = already_low es e last h in
    let low = parts.0 in
    let none = none_yet e.origin in
    (found [] es e legal (omega arith) low, parts.1)

-- what isn't accepted leaves no trace
kept_none : (v : Verdict) (e : EntryValue) → is_accept v ≡ false → kept_by v e ≡ []
kept_none v e h = ap (λ b. if b then e ∷ [] else []) h

after_none : (before rest : List EntryValue) (t : List EntryValue) → t ≡ [] → t ++ accepted_of (before ++ t) rest ≡ accepted_of before rest
after_none before rest t none =
    ap (λ (t : List EntryValue). t ++ accepted_of (before ++ t) rest) none ∙ ap (λ (l : List EntryValue). accepted_of l rest) (append-nil before)

passed_over : (before rest : List EntryValue) (e : EntryValue) → is_accept (judged before e) ≡ false → accepted_of before (e ∷ rest) ≡ accepted_of before rest
unfolding accepted_of
passed_over before rest e h = after_none before rest (taken before e) (kept_none (judged before e) e h)

pub refused_nothing : (before first rest : List EntryValue) (e : EntryValue) → is_accept (judged (before ++ accepted_of before first) e) ≡ false → accepted_of before (first ++ e ∷ rest) ≡ accepted_of before (first ++ rest)
refused_nothing before first rest e h =
    accepted_in_parts before first (e ∷ rest)
    ∙ ap (λ (l : List EntryValue). accepted_of before first ++ l) (passed_over (before ++ accepted_of before first) rest e h)
    ∙ sym (accepted_in_parts before first rest)

not_accepted : (es : List EntryValue) (e : EntryValue) → IsLegal es → IsRepeat es e → is_accept (judged es e) ≡ false
not_accepted es e legal repeat = ap is_accept (repeat_judged es e legal repeat)

pub repeat_nothing : (before first rest : List EntryValue) (e : EntryValue) → IsLegal before → IsRepeat (before ++ accepted_of before first) e → accepted_of before (first ++ e ∷ rest) ≡ accepted_of before (first ++ rest)
repeat_nothing before first rest e legal repeat =
    refused_nothing before first rest e (not_accepted (before ++ accepted_of before first) e (accepted_legal before first legal) repeat)

verdicts_past : (before rest : List EntryValue) (e : EntryValue) → is_accept (judged before e) ≡ false → verdicts_on before (e ∷ rest) ≡ judged before e ∷ verdicts_on before rest
unfolding verdicts_on
verdicts_past before rest e h =
    let none : taken before e ≡ [] = kept_none (judged before e) e h in
    let same : before ++ taken before e ≡ before = ap (λ (t : List EntryValue). before ++ t) none ∙ append-nil before in
    ap (λ (l : List EntryValue). judged before e ∷ verdicts_on l rest) same

verdicts_over : (before rest : List EntryValue) (e : EntryValue) → IsLegal before → IsRepeat before e → verdicts_on before (e ∷ rest) ≡ verdict.Already (entries_from e.origin before) ∷ verdicts_on before rest
verdicts_over before rest e legal repeat =
    verdicts_past before rest e (not_accepted before e legal repeat) ∙ ap (λ (v : Verdict). v ∷ verdicts_on before rest) (repeat_judged before e legal repeat)

pub repeat_verdicts : (before first rest : List EntryValue) (e : EntryValue) → IsLegal before → IsRepeat (before ++ accepted_of before first) e
    → verdicts_on before (first ++ e ∷ rest) ≡ verdicts_on before first ++ verdict.Already (entries_from e.origin (before ++ accepted_of before first)) ∷ verdicts_on (before ++ accepted_of before first) rest
repeat_verdicts before first rest e legal repeat =
    verdicts_in_parts before first (e ∷ rest)
    ∙ ap (λ (l : List Verdict). verdicts_on before first ++ l) (verdicts_over (before ++ accepted_of before first) rest e (accepted_legal before first legal) repeat)

-- the verdicts on the others are those that they get without it
without : {A : Type 0} (xs ys : List A) (y : A) (n : ℕ) → length xs ≡ n → take n (xs ++ y ∷ ys) ++ drop (n + 1) (xs ++ y ∷ ys) ≡ xs ++ ys
without xs ys y n is =
    ap (λ k. take k (xs ++ y ∷ ys) ++ drop (k + 1) (xs ++ y ∷ ys)) (sym is)
    ∙ ap (λ l. l ++ drop (length xs + 1) (xs ++ y ∷ ys)) (take-append_seam xs (y ∷ ys))
    ∙ ap (λ l. xs ++ l) (drop-append-add xs (y ∷ ys) 1)

pub refused_others : (before first rest : List EntryValue) (e : EntryValue) → is_accept (judged (before ++ accepted_of before first) e) ≡ false
    → take (length first) (verdicts_on before (first ++ e ∷ rest)) ++ drop (length first + 1) (verdicts_on before (first ++ e ∷ rest)) ≡ verdicts_on before (first ++ rest)
refused_others before first rest e h =
    let held = before ++ accepted_of before first in
    let parts : verdicts_on before (first ++ e ∷ rest) ≡ verdicts_on before first ++ judged held e ∷ verdicts_on held rest =
    verdicts_in_parts before first (e ∷ rest) ∙ ap (λ (l : List Verdict). verdicts_on before first ++ l) (verdicts_past held rest e h) in
    ap (λ (l : List Verdict). take (length first) l ++ drop (length first + 1) l) parts
    ∙ without (verdicts_on before first) (verdicts_on held rest) (judged held e) (length first) (as_many before first)
    ∙ sym (verdicts_in_parts before first rest)

pub repeat_others : (before first rest : List EntryValue) (e : EntryValue) → IsLegal before → IsRepeat (before ++ accepted_of before first) e
    → take (length first) (verdicts_on before (first ++ e ∷ rest)) ++ drop (length first + 1) (verdicts_on before (first ++ e ∷ rest)) ≡ verdicts_on before (first ++ rest)
repeat_others before first rest e legal repeat =
    refused_others before first rest e (not_accepted (before ++ accepted_of before first) e (accepted_legal before first legal) repeat)

-- each entry stands once
pub once_after : (before es : List EntryValue) → IsLegal before → (i j : ℕ) (a b : EntryValue) → slice_get (before ++ accepted_of before es) i ≡ Some a → slice_get (before ++ accepted_of before es) j ≡ Some b → a.origin ≡ b.origin → a.seq ≡ b.seq → i ≡ j
once_after before es legal = once (before ++ accepted_of before es) (accepted_legal before es legal)

-- entries that are all repeats
no_verdicts : (before : List EntryValue) → verdicts_on before [] ≡ []
unfolding verdicts_on
no_verdicts before = refl

pub again_verdicts : (before again : List EntryValue) → IsLegal before → All (IsRepeat before) again → verdicts_on before again ≡ map (λ e. verdict.Already (entries_from e.origin before)) again
again_verdicts before [] legal each = no_verdicts before
again_verdicts before (e ∷ again) legal each =
    verdicts_over before again e legal (All-head (IsRepeat before) e again each)
    ∙ ap (λ (l : List Verdict). verdict.Already (entries_from e.origin before) ∷ l) (again_verdicts before again legal (All-tail (IsRepeat before) e again each))

none_accepted : (before : List EntryValue) → accepted_of before [] ≡ []
unfolding accepted_of
none_accepted before = refl

pub again_nothing : (before again : List EntryValue) → IsLegal before → All (IsRepeat before) again → accepted_of before again ≡ []
unfolding accepted_of
again_nothing before [] legal each = refl
again_nothing before (e ∷ again) legal each =
    passed_over before again e (not_accepted before e legal (All-head (IsRepeat before) e again each))
    ∙ again_nothing before again legal (All-tail (IsRepeat before) e again each)

repeats_itself : (before es : List EntryValue) (e : EntryValue) → Contains es e → IsRepeat (before ++ es) e
repeats_itself before es e within =
    let there = Contains-append_right before es e within in
    record { place = there.0; first = e; stands = slice_get-get_or (before ++ es) there.0 e there.1 ∙ ap Some there.2; same_origin = refl; same_number = refl }

pub are_repeats : (before es again : List EntryValue) → All (Contains (accepted_of before es)) again → All (IsRepeat (before ++ accepted_of before es)) again
are_repeats before es again each = All-weaker (Contains (accepted_of before es)) (IsRepeat (before ++ accepted_of before es)) (repeats_itself before (accepted_of before es)) again each

pub again_accepted : (before es again : List EntryValue) → IsLegal before → All (Contains (accepted_of before es)) again → accepted_of before (es ++ again) ≡ accepted_of before es
again_accepted before es again legal each =
    let nothing = again_nothing (before ++ accepted_of before es) again (accepted_legal before es legal) (are_repeats before es again each) in
    accepted_in_parts before es again
    ∙ ap (λ (l : List EntryValue). accepted_of before es ++ l) nothing
    ∙ append-nil (accepted_of before es)

pub again_all : (before es again : List EntryValue) → IsLegal before → IsLegalAfter before es → All (Contains es) again → accepted_of before (es ++ again) ≡ es
again_all before es again legal after each =
    let whole = all_accepted before es after in
    again_accepted before es again legal (subst (λ (l : List EntryValue). All (Contains l) again) (sym whole) each) ∙ whole

-- entries that are sent at least once
after_one : (before rest sent entries : List EntryValue) (e : EntryValue) → judged before e ≡ verdict.Accept → entries ≡ e ∷ rest → accepted_of (before ++ e ∷ []) sent ≡ rest → accepted_of before (e ∷ sent) ≡ entries
unfolding accepted_of
after_one before rest sent entries e h is more =
    let alone : taken before e ≡ e ∷ [] = ap (λ v. kept_by v e) h in
    ap (λ (l : List EntryValue). l ++ accepted_of (before ++ l) sent) alone ∙ ap (λ (l : List EntryValue). e ∷ l) more ∙ sym is

first_accepted : (before rest : List EntryValue) (e : EntryValue) → IsLegalAfter before (e ∷ rest) → (judged before e ≡ verdict.Accept) × IsLegalAfter (before ++ e ∷ []) rest
unfolding IsLegalAfter
first_accepted before rest e legal = legal

pub kept_once : (before entries sent : List EntryValue) → IsLegalAfter before entries → IsSending before entries sent → accepted_of before sent ≡ entries
unfolding IsSending
kept_once before entries [] after sending = none_accepted before ∙ sym sending
kept_once before entries (e ∷ sent) after (inl other) = passed_over before sent e other.0 ∙ kept_once before entries sent after other.1
kept_once before entries (e ∷ sent) after (inr next) =
    let parts = first_accepted before next.0 e (subst (λ (l : List EntryValue). IsLegalAfter before l) next.1 after) in
    after_one before next.0 sent entries e parts.0 next.1 (kept_once (before ++ e ∷ []) next.0 sent parts.1 next.2)

-- what is sent is a sending of what is accepted
nothing_kept : (before sent : List EntryValue) (e : EntryValue) → is_accept (judged before e) ≡ false → IsSending (before ++ []) (accepted_of (before ++ []) sent) sent
    → IsSending before (accepted_of (before ++ []) sent) (e ∷ sent)
unfolding IsSending
nothing_kept before sent e h rest = inl (h, subst (λ (l : List EntryValue). IsSending l (accepted_of (before ++ []) sent) sent) (append-nil before) rest)

sending_first : (before sent : List EntryValue) (e : EntryValue) (v : Verdict) → judged before e ≡ v → IsSending (before ++ kept_by v e) (accepted_of (before ++ kept_by v e) sent) sent
    → IsSending before (kept_by v e ++ accepted_of (before ++ kept_by v e) sent) (e ∷ sent)
unfolding IsSending
sending_first before sent e verdict.Accept h rest = inr (accepted_of (before ++ e ∷ []) sent, refl, rest)
sending_first before sent e (verdict.Already n) h rest = nothing_kept before sent e (ap is_accept h) rest
sending_first before sent e (verdict.Gap n) h rest = nothing_kept before sent e (ap is_accept h) rest
sending_first before sent e (verdict.Refused why) h rest = nothing_kept before sent e (ap is_accept h) rest

no_sending : (before : List EntryValue) → IsSending before [] []
unfolding IsSending
no_sending before = refl

pub is_sending : (before sent : List EntryValue) → IsSending before (accepted_of before sent) sent
unfolding accepted_of
is_sending before [] = no_sending before
is_sending before (e ∷ sent) = sending_first before sent e (judged before e) refl (is_sending (before ++ taken before e) sent)
