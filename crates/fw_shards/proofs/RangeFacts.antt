-- The lines of a range of hours are those of the shards, where the lines of each hour are.
use Rattle.std.proofs.Common.{◌≡◌, ◌∙◌, ℕ, zero, suc, ◌+◌, ◌-◌, ◌≤◌, ◌<◌, ◌==◌, ◌&&◌, All, Bool, true, false, cond, nat_le, nat_lt, List, [], ◌∷◌, ◌++◌, map, filter, refl, sym, ap, subst, append-nil, arith}
use Rattle.std.specs.List.{AllZip, flat_map, range_with_len}
use Rattle.std.specs.List.Sorted.{IsPermutation}
use Rattle.std.proofs.lemmas.Bool.{eq-eqb, eqb-true, ne_eqb}
use Rattle.std.proofs.lemmas.Bool.Decides.{nat_tests}
use Rattle.std.proofs.lemmas.List.Elements.{All-head, All-tail}
use Rattle.std.proofs.lemmas.List.Sorted.{IsPermutation-trans}
use Rattle.fw_amortise.specs.LineValue.{LineValue}
use Rattle.fw_amortise.specs.Lines.{AreHourLines, AreLines, rows_in}
use Rattle.fw_amortise.proofs.OneList.{hour_lines_same}
use Rattle.fw_charge.specs.Charge.{Charge}
use Rattle.fw_entry.specs.Entry.{EntryValue}
use Rattle.fw_query.specs.OfHistory.{AreLinesOf}
use Rattle.fw_shards.specs.Asked.{AreLinesOfEach, AskedValue, HoldHours, HoldsHour, IsAskedWithin, asked_for, is_asked}
use Rattle.fw_shards.proofs.ListFacts.{between, flat_alike, flat_between, flat_passing, flat_same, flat_swap, same_permutation, two_ways}
use Rattle.fw_snapshot.specs.History.{commitments_of, rows_of}
use Rattle.fw_sums.specs.RangeLines.{joined}
use Rattle.fw_terms.specs.Commitment.{CommitmentValue}

-- the lines that a history has in an hour
abbrev pub AreHourOf : ℕ → List EntryValue → List LineValue → Type 0
AreHourOf hour history lines = AreLines (commitments_of history) (rows_of history) hour lines

-- in each hour the lines of the one warehouse are those of the shards that are asked for it
abbrev pub AddUp : List EntryValue → ℕ → ℕ → List AskedValue → Type 0
AddUp whole from to asked = (hour : ℕ) → from ≤ hour → hour < to → (lines : List LineValue) (each : List (List LineValue)) → AreHourOf hour whole lines → AllZip (AreHourOf hour) (asked_for hour asked) each
    → IsPermutation (joined each) lines

-- ---- the lines of hours as a function of the hour
as_function : (R : ℕ → List LineValue → Type 0) (n from : ℕ) (hourly : List (List LineValue)) → AllZip R (range_with_len from n) hourly
    → (at : ℕ → List LineValue) × ((h : ℕ) → from ≤ h → h < from + n → R h (at h)) × (flat_map at (range_with_len from n) ≡ joined hourly)
as_function R zero from [] are = ((λ h. []), (λ h low high. absurd (omega arith)), refl)
as_function R zero from (l ∷ ls) are = absurd are
as_function R (suc n) from [] are = absurd are
as_function R (suc n) from (l ∷ ls) are =
    let rest = as_function R n (from + 1) ls are.1 in
    let later : ℕ → List LineValue = rest.0 in
    let at : ℕ → List LineValue = λ h. cond (h == from) l (later h) in (
      at,
      (λ h low high. two_ways (h == from)
          (λ here. subst (λ (t : Bool). R h (cond t l (later h))) (sym here) (subst (λ (k : ℕ). R k l) (sym (eqb-true h from here)) are.0))
          (λ other. subst (λ (t : Bool). R h (cond t l (later h))) (sym other) (rest.1 h (grind (arith, nat_tests)) (omega arith)))),
      ap (λ t. cond t l (later from) ++ flat_map at (range_with_len (from + 1) n)) (eq-eqb from from refl)
          ∙ ap (λ r. l ++ r) (flat_same at later (from + 1) n (λ h low high. ap (λ t. cond t l (later h)) (ne_eqb h from (λ e. omega (arith, e)))) ∙ rest.2),
    )

-- ---- each shard beside its lines
abbrev Told : Type 0
Told = AskedValue × (ℕ → List LineValue)

record Tells (from to : ℕ) (t : Told) : Type 0 where
  within : IsAskedWithin from to t.0
  hours : (h : ℕ) → t.0.from ≤ h → h < t.0.to → AreHourOf h t.0.history (t.1 h)

abbrev Tell : ℕ → ℕ → List Told → Type 0
Tell from to [] = Unit {0}
Tell from to (t ∷ ts) = Tells from to t × Tell from to ts

abbrev own_lines : Told → List LineValue
own_lines t = flat_map t.1 (range_with_len t.0.from (t.0.to - t.0.from))

told : (from to : ℕ) (asked : List AskedValue) (each : List (List LineValue)) → All (IsAskedWithin from to) asked → AreLinesOfEach asked each
    → (ts : List Told) × Tell from to ts × (map (λ t. t.0) ts ≡ asked) × (flat_map own_lines ts ≡ joined each)
told from to [] [] within are = ([], tt, refl, refl)
told from to [] (l ∷ each) within are = absurd are
told from to (a ∷ asked) [] within are = absurd are
told from to (a ∷ asked) (l ∷ each) within are =
    let first = as_function (AreLines (commitments_of a.history) (rows_of a.history)) (a.to - a.from) a.from are.0.hourly are.0.are_hourly in
    let rest = told from to asked each (All-tail (IsAskedWithin from to) a asked within) are.1 in
    let t : Told = (a, first.0) in (
      t ∷ rest.0,
      (record { within = All-head (IsAskedWithin from to) a asked within; hours = λ h low high. first.1 h low (omega arith) }, rest.1),
      ap (λ l. a ∷ l) rest.2,
      (λ j. (first.2 ∙ sym are.0.lines_are) j ++ rest.3 j),
    )

-- those that are asked for an hour, and their lines there
hour_lists : (from to hour : ℕ) (ts : List Told) → Tell from to ts
    → AllZip (AreHourOf hour) (asked_for hour (map (λ t. t.0) ts)) (map (λ t. t.1 hour) (filter (λ t. is_asked hour t.0) ts))
hour_lists from to hour [] tell = tt
hour_lists from to hour (t ∷ ts) tell = two_ways (is_asked hour t.0)
    (λ holds.
    let low : t.0.from ≤ hour = grind (arith, nat_tests) in
    let high : hour < t.0.to = grind (arith, nat_tests) in
    rw holds (tell.0.hours hour low high, hour_lists from to hour ts tell.1))
    (λ fails. rw fails (hour_lists from to hour ts tell.1))

joined_map : {X : Type 0} (f : X → List LineValue) (xs : List X) → flat_map f xs ≡ joined (map f xs)
joined_map f [] = refl
joined_map f (x ∷ xs) = ap (λ l. f x ++ l) (joined_map f xs)

-- what each has in the range is what it has in the hours that it is asked for
all_between : (from to : ℕ) (ts : List Told) → Tell from to ts
    → flat_map (λ t. flat_map (between t.0.from t.0.to t.1) (range_with_len from (to - from))) ts ≡ flat_map own_lines ts
all_between from to [] tell = refl
all_between from to (t ∷ ts) tell =
    let since : from ≤ t.0.from = tell.0.within.since in
    let until : t.0.to ≤ to = tell.0.within.until in
    let first : flat_map (between t.0.from t.0.to t.1) (range_with_len from (to - from)) ≡ own_lines t = flat_between t.1 t.0.from t.0.to from (to - from) since (omega arith) in
    let rest = all_between from to ts tell.1 in
    λ j. first j ++ rest j

pub range_adds : (whole : List EntryValue) (from to : ℕ) (asked : List AskedValue) (lines : List LineValue) (each : List (List LineValue)) → All (IsAskedWithin from to) asked → AddUp whole from to asked
    → AreLinesOf whole from to lines → AreLinesOfEach asked each → IsPermutation (joined each) lines
range_adds whole from to asked lines each within add are each_are =
    let one = as_function (AreLines (commitments_of whole) (rows_of whole)) (to - from) from are.hourly are.are_hourly in
    let at : ℕ → List LineValue = one.0 in
    let all = told from to asked each within each_are in
    let ts : List Told = all.0 in
    let hours : List ℕ = range_with_len from (to - from) in
    let f : Told → ℕ → List LineValue = λ t. between t.0.from t.0.to t.1 in
    let here : (h : ℕ) → from ≤ h → h < from + (to - from) → IsPermutation (flat_map (λ t. f t h) ts) (at h) = λ h low high.
    let lists : AllZip (AreHourOf h) (asked_for h asked) (map (λ t. t.1 h) (filter (λ t. is_asked h t.0) ts)) =
    subst (λ (shards : List AskedValue). AllZip (AreHourOf h) (asked_for h shards) (map (λ t. t.1 h) (filter (λ t. is_asked h t.0) ts))) all.2 (hour_lists from to h ts all.1) in
    let same : joined (map (λ t. t.1 h) (filter (λ t. is_asked h t.0) ts)) ≡ flat_map (λ t. f t h) ts =
    sym (joined_map (λ t. t.1 h) (filter (λ t. is_asked h t.0) ts)) ∙ sym (flat_passing (λ t. is_asked h t.0) (λ t. t.1 h) ts) in
    subst (λ l. IsPermutation l (at h)) same (add h low (omega arith) (at h) (map (λ t. t.1 h) (filter (λ t. is_asked h t.0) ts)) (one.1 h low high) lists) in
    let whole_is : flat_map at hours ≡ lines = one.2 ∙ sym are.lines_are in
    let each_is : flat_map (λ t. flat_map (f t) hours) ts ≡ joined each = all_between from to ts all.1 ∙ all.3 in
    subst (λ l. IsPermutation l lines) each_is
    (subst (IsPermutation (flat_map (λ t. flat_map (f t) hours) ts)) whole_is
    (IsPermutation-trans (flat_map (λ t. flat_map (f t) hours) ts) (flat_map (λ h. flat_map (λ t. f t h) ts) hours) (flat_map at hours)
    (flat_swap f ts hours) (flat_alike (λ h. flat_map (λ t. f t h) ts) at from (to - from) here)))
