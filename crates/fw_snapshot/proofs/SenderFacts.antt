-- What a warehouse has of one sender.
use Rattle.std.proofs.Common.{◌≡◌, ◌+◌, ◌≤◌, ◌∙◌, ℕ, zero, suc, List, [], ◌∷◌, ◌++◌, All, Some, true, drop, filter, length, map, take, slice_get, get_or, refl, sym, ap, subst, arith}
use Rattle.std.specs.List.{Contains, range_with_len}
use Rattle.std.specs.Str.{bytes_eq}
use Rattle.std.proofs.Math.Seq.{drop-cons}
use Rattle.std.proofs.lemmas.List.{append-nil, append_assoc, take_all}
use Rattle.std.proofs.lemmas.List.Elements.{All-append, All-contains, All-contains_itself, All-filter, All-head, All-tail, All-weaker, Contains-append_left, Contains-append_right, filter_passes}
use Rattle.std.proofs.lemmas.Option.{get_or_from_slice_get, slice_get-get_or, slice_get_within}
use Rattle.std.proofs.lemmas.Slice.Eq.{bytes_eq-Decides}
use Rattle.fw_entry.specs.Entry.{EntryValue}
use Rattle.fw_snapshot.specs.History.{entries_from}
use Rattle.fw_snapshot.specs.Judging.{judged, IsLegal}
use Rattle.fw_snapshot.specs.Verdicts.{is_kept, kept_by, taken, verdicts_on, accepted_of, of_origin, AreNumbered, HasOnly}
use Rattle.fw_snapshot.specs.declared.verdict.Verdict.{Verdict}
use Rattle.fw_snapshot.specs.declared.verdict.Verdict.TheVariants as verdict
use Rattle.fw_snapshot.proofs.EntryFacts.{entries_from_grows, entries_from_more}
use Rattle.fw_snapshot.proofs.LegalFacts.{accepted_number}
use Rattle.fw_snapshot.proofs.RepeatFacts.{already_low, numbers}
use Rattle.fw_snapshot.proofs.VerdictFacts.{accepted_each, accepted_legal}

-- an entry that was answered so is counted from then on
one_counted : (before : List EntryValue) (e : EntryValue) → entries_from e.origin (before ++ e ∷ []) ≡ entries_from e.origin before + 1
one_counted before e =
    let same : bytes_eq e.origin e.origin ≡ true = (bytes_eq-Decides e.origin e.origin).1 refl in
    rw same at (entries_from_more e.origin before e)

kept_number : (before : List EntryValue) (e : EntryValue) (v : Verdict) → judged before e ≡ v → is_kept v ≡ true → e.seq ≤ entries_from e.origin (before ++ kept_by v e)
kept_number before e verdict.Accept h k =
    let number = accepted_number before e h in
    let one = one_counted before e in
    omega arith
kept_number before e (verdict.Already n) h k = rw append-nil (already_low before e n h).0
kept_number before e (verdict.Gap n) h k = absurd (cc)
kept_number before e (verdict.Refused why) h k = absurd (cc)

pub answered : (before sent : List EntryValue) (place : ℕ) (e : EntryValue) (v : Verdict) → slice_get sent place ≡ Some e → slice_get (verdicts_on before sent) place ≡ Some v
    → is_kept v ≡ true → e.seq ≤ entries_from e.origin (before ++ accepted_of before sent)
unfolding verdicts_on accepted_of
answered before [] place e v there said kept = absurd (cc)
answered before (x ∷ sent) zero e v there said kept =
    let same : x ≡ e = cc in
    let is : judged before x ≡ v = cc in
    let more = accepted_of (before ++ taken before x) sent in
    let here = kept_number before x (judged before x) refl (ap is_kept is ∙ kept) in
    let later : entries_from x.origin (before ++ taken before x) ≤ entries_from x.origin (before ++ (taken before x ++ more)) =
    rw append_assoc at (entries_from_grows x.origin (before ++ taken before x) more) in
    subst (λ (y : EntryValue). y.seq ≤ entries_from y.origin (before ++ (taken before x ++ more))) same (omega arith)
answered before (x ∷ sent) (suc place) e v there said kept = rw append_assoc at (answered (before ++ taken before x) sent place e v there said kept)

-- entries whose numbers go on from k, each of them one of those that are numbered, are these from place k on
in_turn_from : (origin : List ℕ) (own : List EntryValue) → AreNumbered origin own → (k : ℕ) (es : List EntryValue) (n : ℕ) → map (λ (e : EntryValue). e.seq) es ≡ range_with_len (k + 1) n
    → All (Contains own) es → es ≡ take n (drop k own)
in_turn_from origin own numbered k [] zero counted each = refl
in_turn_from origin own numbered k [] (suc n) counted each = absurd (cc)
in_turn_from origin own numbered k (x ∷ es) zero counted each = absurd (cc)
in_turn_from origin own numbered k (x ∷ es) (suc n) counted each =
    let number : x.seq ≡ k + 1 = cc in
    let rest : map (λ (e : EntryValue). e.seq) es ≡ range_with_len ((k + 1) + 1) n = cc in
    let there = All-head (Contains own) x es each in
    let stands : slice_get own there.0 ≡ Some x = slice_get-get_or own there.0 x there.1 ∙ ap Some there.2 in
    let counts = (numbered there.0 x stands).1 in
    let place : there.0 ≡ k = omega arith in
    let first : slice_get own k ≡ Some x = subst (λ i. slice_get own i ≡ Some x) place stands in
    let next : suc k ≡ k + 1 = omega arith in
    let cut : drop k own ≡ x ∷ drop (k + 1) own =
    drop-cons own k x (slice_get_within own k x first)
    ∙ ap (λ (y : EntryValue). y ∷ drop (suc k) own) (get_or_from_slice_get own k x x first)
    ∙ ap (λ i. x ∷ drop i own) next in
    rw cut (ap (λ (l : List EntryValue). x ∷ l) (in_turn_from origin own numbered (k + 1) es n rest (All-tail (Contains own) x es each)))

-- what holds of each of two lists holds of the first
first_part : (P : EntryValue → Type 0) (xs ys : List EntryValue) → All P (xs ++ ys) → All P xs
first_part P xs ys each = All-weaker (Contains xs) P (λ x within. All-contains P (xs ++ ys) x each (Contains-append_left xs ys x within)) xs (All-contains_itself xs)

second_part : (P : EntryValue → Type 0) (xs ys : List EntryValue) → All P (xs ++ ys) → All P ys
second_part P xs ys each = All-weaker (Contains ys) P (λ x within. All-contains P (xs ++ ys) x each (Contains-append_right xs ys x within)) ys (All-contains_itself ys)

-- what is kept of an origin is among its own entries
only_own : (origin : List ℕ) (own es : List EntryValue) → HasOnly origin own es → All (Contains own) (of_origin origin es)
only_own origin own es only =
    let is_from = λ (e : EntryValue). bytes_eq origin e.origin in
    let each = All-filter is_from (λ (e : EntryValue). e.origin ≡ origin → Contains own e) es only in
    let from = filter_passes is_from es in
    λ k d within. each k d within (sym ((bytes_eq-Decides origin (get_or (filter is_from es) k d).origin).0 (from k d within)))

pub front : (origin : List ℕ) (before sent own : List EntryValue) → IsLegal before → AreNumbered origin own → HasOnly origin own (before ++ sent)
    → of_origin origin (before ++ accepted_of before sent) ≡ take (entries_from origin (before ++ accepted_of before sent)) own
front origin before sent own legal numbered only =
    let P = λ (e : EntryValue). e.origin ≡ origin → Contains own e in
    let kept : All P (before ++ accepted_of before sent) =
    All-append P before (accepted_of before sent) (first_part P before sent only) (accepted_each P before sent (second_part P before sent only)) in
    in_turn_from origin own numbered 0 (of_origin origin (before ++ accepted_of before sent)) (entries_from origin (before ++ accepted_of before sent))
    (numbers (before ++ accepted_of before sent) (accepted_legal before sent legal) origin) (only_own origin own (before ++ accepted_of before sent) kept)

pub whole : (origin : List ℕ) (before sent own : List EntryValue) (place : ℕ) (last : EntryValue) (v : Verdict) → IsLegal before → AreNumbered origin own → HasOnly origin own (before ++ sent)
    → slice_get sent place ≡ Some last → last.origin ≡ origin → last.seq ≡ length own → slice_get (verdicts_on before sent) place ≡ Some v → is_kept v ≡ true
    → of_origin origin (before ++ accepted_of before sent) ≡ own
whole origin before sent own place last v legal numbered only there named number said kept =
    let low = answered before sent place last v there said kept in
    let same : entries_from last.origin (before ++ accepted_of before sent) ≡ entries_from origin (before ++ accepted_of before sent) =
    ap (λ o. entries_from o (before ++ accepted_of before sent)) named in
    front origin before sent own legal numbered only ∙ take_all (entries_from origin (before ++ accepted_of before sent)) own (omega arith)
