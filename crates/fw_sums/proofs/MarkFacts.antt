-- Lemmas on marked hours.
use Rattle.std.proofs.Common.{◌≡◌, ◌≢◌, ◌∙◌, ℕ, zero, suc, ◌+◌, ◌-◌, ◌*◌, ◌/◌, ◌<◌, ◌≤◌, ◌==◌, ◌&&◌, nat_le, nat_lt, cond, ℤ, pos, Bool, true, false, List, [], ◌∷◌, ◌++◌, length, map, drop, take, get_or, replicate, sym, ap, refl, subst, arith, ⊎_elim, true≢false, append-nil}
use Rattle.std.proofs.lemmas.Bool.{and_parts, cases_order, leb-true, leb-false, le-leb, lt-leb, lt-ltb, le-ltb, ltb-true, ltb-false}
use Rattle.std.proofs.lemmas.Bool.Decides.{nat_tests}
use Rattle.std.proofs.lemmas.List.{drop_more, get_or-replicate, get_or_past, length-replicate}
use Rattle.std.proofs.lemmas.List.Elements.{filter_more}
use Rattle.std.proofs.lemmas.List.FromFn.{get_or-map-range_with_len, length-map-range_with_len}
use Rattle.std.specs.List.{AllByRecursion, list_all, list_any, range_with_len}
use Rattle.std.specs.List.Sorted.{IsPermutation}
use Rattle.fw_charge.specs.Charge.{Charge, hour_of}
use Rattle.fw_lanes.specs.Masked.{is_between}
use Rattle.fw_cover.proofs.Sorting.{two_ways}
use Rattle.fw_cover.specs.Eligible.{is_of_hour}
use Rattle.fw_terms.specs.Commitment.{CommitmentValue}
use Rattle.fw_amortise.specs.Lines.{rows_in}
use Rattle.fw_sums.specs.Hours.{AreTouched, is_marked, is_touched, rows_marked}
use Rattle.fw_sums.specs.Wholes.{IsBetween}
use Rattle.fw_sums.proofs.FilterFacts.{either_passes}
use Rattle.fw_sums.proofs.UntouchedFacts.{neither}

and_false : (b : Bool) → b && false ≡ false
and_false true = refl
and_false false = refl

-- ---- the mark of an hour

-- at its place
pub marked_at : (marks : List Bool) (from hour k : ℕ) → hour ≡ from + k → is_marked marks from hour ≡ get_or marks k false
unfolding is_marked
marked_at marks from hour k at =
    let first : nat_le from hour ≡ true = grind (arith, nat_tests) in
    let place : hour - from ≡ k = omega arith in
    rw (first, place) refl

-- where no hour is marked
none_marked_at : (marks : List Bool) (k : ℕ) → list_any (λ (mark : Bool). mark) marks ≡ false → get_or marks k false ≡ false
none_marked_at [] k none = refl
none_marked_at (mark ∷ marks) zero none = (neither mark (list_any (λ (mark : Bool). mark) marks) none).0
none_marked_at (mark ∷ marks) (suc k) none = none_marked_at marks k (neither mark (list_any (λ (mark : Bool). mark) marks) none).1

-- no row is of a marked hour then
pub no_hour_marked : (marks : List Bool) (from : ℕ) (rows : List Charge) → list_any (λ (mark : Bool). mark) marks ≡ false → rows_marked marks from rows ≡ []
unfolding is_marked
no_hour_marked marks from [] none = refl
no_hour_marked marks from (row ∷ rows) none = rw (not_this (hour_of row.start)) (no_hour_marked marks from rows none)
  where
    not_this : (hour : ℕ) → is_marked marks from hour ≡ false
    not_this hour = rw (none_marked_at marks (hour - from) none) (and_false (nat_le from hour))

-- before the first
pub marked_before : (marks : List Bool) (from hour : ℕ) → hour < from → is_marked marks from hour ≡ false
unfolding is_marked
marked_before marks from hour early = let out : nat_le from hour ≡ false = grind (arith, nat_tests) in rw out refl

-- past the last
pub marked_past : (marks : List Bool) (from hour k : ℕ) → hour ≡ from + k → length marks ≤ k → is_marked marks from hour ≡ false
marked_past marks from hour k at past = marked_at marks from hour k at ∙ get_or_past marks k false past

-- where each hour is marked, the seconds of marked hours are those from the first on and before the last one's end
every_marked : (marks : List Bool) (k : ℕ) → list_all (λ (mark : Bool). mark) marks ≡ true → k < length marks → get_or marks k false ≡ true
every_marked [] k all below = absurd (omega (arith, below))
every_marked (mark ∷ marks) zero all below = (and_parts mark (list_all (λ (mark : Bool). mark) marks) all).0
every_marked (mark ∷ marks) (suc k) all below = every_marked marks k (and_parts mark (list_all (λ (mark : Bool). mark) marks) all).1 (omega (arith, below))

pub every_between : (marks : List Bool) (from first end s : ℕ) → list_all (λ (mark : Bool). mark) marks ≡ true → first ≡ from * 3600 → end ≡ first + length marks * 3600 → (nat_le first s && nat_lt s end) ≡ is_marked marks from (hour_of s)
unfolding hour_of
every_between marks from first end s all starts ends = two_ways (nat_le from (s / 3600))
    (λ late.
    let begun : from ≤ s / 3600 = leb-true _ _ late in
    let on : nat_le first s ≡ true = le-leb _ _ (omega (arith, starts, begun)) in
    let at : s / 3600 ≡ from + (s / 3600 - from) = omega (arith, begun) in
    two_ways (nat_lt (s / 3600 - from) (length marks))
    (λ within.
    let below : s / 3600 - from < length marks = ltb-true _ _ within in
    let before : nat_lt s end ≡ true = lt-ltb _ _ (omega (arith, starts, ends, below, begun)) in
    rw (on, before) (sym (marked_at marks from (s / 3600) (s / 3600 - from) at ∙ every_marked marks (s / 3600 - from) all below)))
    (λ without.
    let past : length marks ≤ s / 3600 - from = ltb-false _ _ without in
    let behind : nat_lt s end ≡ false = le-ltb _ _ (omega (arith, starts, ends, past, begun)) in
    rw (on, behind) (sym (marked_past marks from (s / 3600) (s / 3600 - from) at past))))
    (λ early.
    let before : s / 3600 < from = leb-false _ _ early in
    let off : nat_le first s ≡ false = lt-leb _ _ (omega (arith, starts, before)) in
    rw off (sym (marked_before marks from (s / 3600) before)))

-- so the rows of marked hours are found by their seconds
pub mask_between : (low high : ℤ) (marks : List Bool) (from : ℕ) (rows : List Charge) → ((s : ℕ) → is_between low high (pos s) ≡ is_marked marks from (hour_of s))
    → map (is_between low high) (map (λ (row : Charge). pos row.start) rows) ≡ map (λ (row : Charge). is_marked marks from (hour_of row.start)) rows
mask_between low high marks from [] same = refl
mask_between low high marks from (row ∷ rows) same = let rest = mask_between low high marks from rows same in λ j. same row.start j ∷ rest j

-- where every hour is marked and the rows are all of these hours, each is of a marked one
pub all_marked : (marks : List Bool) (from : ℕ) (rows : List Charge) → list_all (λ (mark : Bool). mark) marks ≡ true → AllByRecursion (IsBetween from (from + length marks)) rows
    → replicate (length rows) true ≡ map (λ (row : Charge). is_marked marks from (hour_of row.start)) rows
all_marked marks from [] every between = refl
all_marked marks from (row ∷ rows) every between =
    let since = between.0.since in
    let before = between.0.before in
    let k = hour_of row.start - from in
    let here : is_marked marks from (hour_of row.start) ≡ true = marked_at marks from (hour_of row.start) k (omega (arith, since)) ∙ every_marked marks k every (omega (arith, since, before)) in
    let rest = all_marked marks from rows every between.1 in
    λ j. sym here j ∷ rest j

-- the marks behind the first are of the later hours
pub marked_later : (mark : Bool) (marks : List Bool) (from hour : ℕ) → hour ≢ from → is_marked (mark ∷ marks) from hour ≡ is_marked marks (from + 1) hour
marked_later mark marks from hour apart =
    ⊎_elim
    (λ (same : hour ≡ from). absurd (apart same))
    (λ rest.
    ⊎_elim
    (λ (early : hour < from). marked_before (mark ∷ marks) from hour early ∙ sym (marked_before marks (from + 1) hour (omega arith)))
    (λ (late : from < hour).
    let at : hour ≡ from + suc (hour - (from + 1)) = omega arith in
    let after : hour ≡ (from + 1) + (hour - (from + 1)) = omega arith in
    marked_at (mark ∷ marks) from hour (suc (hour - (from + 1))) at ∙ sym (marked_at marks (from + 1) hour (hour - (from + 1)) after))
    rest)
    (cases_order hour from)

-- the first mark
pub marked_first : (mark : Bool) (marks : List Bool) (from hour : ℕ) → hour ≡ from → is_marked (mark ∷ marks) from hour ≡ mark
marked_first mark marks from hour same = marked_at (mark ∷ marks) from hour 0 (omega arith)

-- ---- rows of marked hours

no_mark : (from hour : ℕ) → is_marked [] from hour ≡ false
unfolding is_marked
no_mark from hour = by (nat_le from hour)
  where
    by : (b : Bool) → (b && false) ≡ false
    by true = refl
    by false = refl

-- where no mark is true, no row is of a marked hour
pub none_marked : (marks : List Bool) (from : ℕ) (rows : List Charge) → list_any (λ (mark : Bool). mark) (map (λ (row : Charge). is_marked marks from (hour_of row.start)) rows) ≡ false → rows_marked marks from rows ≡ []
none_marked marks from [] none = refl
none_marked marks from (row ∷ rows) none =
    let both = neither (is_marked marks from (hour_of row.start)) (list_any (λ (mark : Bool). mark) (map (λ (row : Charge). is_marked marks from (hour_of row.start)) rows)) none in
    rw both.0 (none_marked marks from rows both.1)

pub no_marks : (rows : List Charge) (from : ℕ) → rows_marked [] from rows ≡ []
no_marks [] from = refl
no_marks (row ∷ rows) from = rw (no_mark from (hour_of row.start)) (no_marks rows from)

-- where the first hour is marked
pub rows_first : (marks : List Bool) (from : ℕ) (rows : List Charge) → IsPermutation (rows_in from rows ++ rows_marked marks (from + 1) rows) (rows_marked (true ∷ marks) from rows)
unfolding rows_in is_of_hour
rows_first marks from rows = either_passes (is_of_hour from) (λ row. is_marked marks (from + 1) (hour_of row.start)) (λ row. is_marked (true ∷ marks) from (hour_of row.start))
    (λ row here. first (hour_of row.start) here)
    (λ row other. later (hour_of row.start) other)
    rows
  where
    first : (hour : ℕ) → (hour == from) ≡ true → (is_marked marks (from + 1) hour ≡ false) × (is_marked (true ∷ marks) from hour ≡ true)
    first hour here = let at : hour ≡ from = grind (arith, nat_tests) in (marked_before marks (from + 1) hour (omega arith), marked_first true marks from hour at)

    later : (hour : ℕ) → (hour == from) ≡ false → is_marked (true ∷ marks) from hour ≡ is_marked marks (from + 1) hour
    later hour other = let apart : hour ≢ from = grind (arith, nat_tests) in marked_later true marks from hour apart

-- the rows of a marked hour are all rows of the hour
pub rows_in_marked : (hour : ℕ) (marks : List Bool) (from : ℕ) (rows : List Charge) → is_marked marks from hour ≡ true → rows_in hour (rows_marked marks from rows) ≡ rows_in hour rows
unfolding rows_in is_of_hour
rows_in_marked hour marks from [] marked = refl
rows_in_marked hour marks from (row ∷ rows) marked =
    let rest = rows_in_marked hour marks from rows marked in
    two_ways (is_marked marks from (hour_of row.start))
    (λ yes. rw yes (λ j. cond (hour_of row.start == hour) (row ∷ rest j) (rest j)))
    (λ no. two_ways (hour_of row.start == hour)
    (λ here. let at : hour_of row.start ≡ hour = grind (arith, nat_tests) in absurd (true≢false (sym marked ∙ ap (is_marked marks from) (sym at) ∙ no)))
    (λ other. rw (no, other) rest))

-- one more row
pub marked_more : (marks : List Bool) (from : ℕ) (rows : List Charge) (i : ℕ) (row : Charge) → i < length rows → get_or rows i row ≡ row → is_marked marks from (hour_of row.start) ≡ true
    → rows_marked marks from (take (i + 1) rows) ≡ rows_marked marks from (take i rows) ++ row ∷ []
marked_more marks from rows i row below is marked =
    filter_more (λ row. is_marked marks from (hour_of row.start)) rows i row below ∙ ap (λ l. rows_marked marks from (take i rows) ++ l) (rw (is, marked) refl)

pub marked_same : (marks : List Bool) (from : ℕ) (rows : List Charge) (i : ℕ) (row : Charge) → i < length rows → get_or rows i row ≡ row → is_marked marks from (hour_of row.start) ≡ false
    → rows_marked marks from (take (i + 1) rows) ≡ rows_marked marks from (take i rows)
marked_same marks from rows i row below is not_marked =
    filter_more (λ row. is_marked marks from (hour_of row.start)) rows i row below ∙ ap (λ l. rows_marked marks from (take i rows) ++ l) (rw (is, not_marked) refl) ∙ append-nil _

-- where every hour of a range is marked, the rows of its hours are all there
pub every_hour : (rows : List Charge) (from n : ℕ) (marks : List Bool) → ((k : ℕ) → k < n → get_or marks k false ≡ true)
    → map (λ h. rows_in h (rows_marked marks from rows)) (range_with_len from n) ≡ map (λ h. rows_in h rows) (range_with_len from n)
every_hour rows from n marks every =
    let first : from + 0 ≡ from = omega arith in
    subst (λ a. map (λ h. rows_in h (rows_marked marks from rows)) (range_with_len a n) ≡ map (λ h. rows_in h rows) (range_with_len a n)) first (by n 0 (λ k below. every k (omega (arith, below))))
  where
    by : (m j : ℕ) → ((k : ℕ) → k < j + m → get_or marks k false ≡ true)
        → map (λ h. rows_in h (rows_marked marks from rows)) (range_with_len (from + j) m) ≡ map (λ h. rows_in h rows) (range_with_len (from + j) m)
    by zero j each = refl
    by (suc m) j each =
        let here : rows_in (from + j) (rows_marked marks from rows) ≡ rows_in (from + j) rows = rows_in_marked (from + j) marks from rows (marked_at marks from (from + j) j refl ∙ each j (omega arith)) in
        let next : from + (j + 1) ≡ (from + j) + 1 = omega arith in
        let rest = by m (j + 1) (λ k below. each k (omega arith)) in
        λ i. here i ∷ (rw next at rest) i

-- ---- the hours in which commitments have lines

pub touched_long : (cs : List CommitmentValue) (from hours : ℕ) (marks : List Bool) → AreTouched cs from hours marks → length marks ≡ hours
touched_long cs from hours marks are = ap length are.each ∙ length-map-range_with_len (is_touched cs) from hours

pub touched_at : (cs : List CommitmentValue) (from hours : ℕ) (marks : List Bool) (k : ℕ) → AreTouched cs from hours marks → k < hours → get_or marks k false ≡ is_touched cs (from + k)
touched_at cs from hours marks k are below = ap (λ l. get_or l k false) are.each ∙ get_or-map-range_with_len (is_touched cs) from hours k (from + k) false below refl

-- where every hour is marked, those from a place on
pub every_at : (n i : ℕ) → i < n → drop i (replicate n true) ≡ true ∷ drop (i + 1) (replicate n true)
every_at n i below = drop_more (replicate n true) i true (rw (length-replicate n true) below) ∙ ap (λ b. b ∷ drop (i + 1) (replicate n true)) (get_or-replicate n i true true below)
