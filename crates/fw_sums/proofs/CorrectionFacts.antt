-- Rows that were summed, what corrects them, and the commitments' own lines bring what the lines of the hour bring.
use Rattle.std.proofs.Common.{◌≡◌, ◌∙◌, ℕ, suc, ◌+◌, ◌*◌, ◌/◌, ◌<◌, ◌≤◌, ℤ, pos, ◌+ℤ◌, Bool, true, false, ◌||◌, ◌&&◌, not, cond, nat_lt, List, [], ◌∷◌, ◌++◌, length, map, filter, get_or, Some, sym, ap, refl, subst, arith, append_assoc}
use Rattle.std.specs.Prelude.{◌-ℤ◌, slice_get, slice_index, unsigned_abs}
use Rattle.std.specs.List.{AllByRecursion, enumerate_from, flat_map, list_any}
use Rattle.std.specs.Str.{bytes_eq}
use Rattle.std.proofs.Math.Nat.{mul-div_cancel, zero-div}
use Rattle.std.proofs.lemmas.Bool.Decides.{nat_tests}
use Rattle.std.proofs.lemmas.Int.{ints}
use Rattle.std.proofs.lemmas.List.{get_or_at, length-append, length-map, map-append}
use Rattle.fw_charge.specs.Charge.{Charge}
use Rattle.fw_charge.specs.Tags.{group_of}
use Rattle.fw_terms.specs.Commitment.{CommitmentValue}
use Rattle.fw_cover.specs.declared.taken.Taken.{Taken}
use Rattle.fw_cover.specs.Eligible.{is_eligible}
use Rattle.fw_cover.specs.Hour.{hour_cover, left_of, quantities_of, quantity_of}
use Rattle.fw_cover.proofs.Sorting.{two_ways}
use Rattle.fw_amortise.specs.LineValue.{LineValue}
use Rattle.fw_amortise.specs.Lines.{AreHourLines, AreOwnLines, given_lines, purchase_lines, rest_line, rest_lines, rest_of}
use Rattle.fw_amortise.proofs.Tagged.{row_tagged}
use Rattle.fw_sums.specs.Corrections.{correction_of, corrections, cost_left, cost_lost, row_lost}
use Rattle.fw_sums.specs.Costs.{Cost, costs_of, groups_of, line_cost, sum_in}
use Rattle.fw_sums.specs.Hours.{row_cost}
use Rattle.fw_sums.specs.Sums.{Counts, CountsHour}
use Rattle.fw_sums.specs.declared.groups.Groups.{Groups}
use Rattle.fw_sums.proofs.SameFacts.{Counts-same, lines_sum-append, lines_there-append, sum_in-append, there-append}
use Rattle.fw_sums.proofs.UntouchedFacts.{IsWhole, given_part, is_whole, neither}

-- ---- one row that commitments may cover

-- a cost of rows, and how what they bring is told
record IsAmountOf (key : List ℕ) (hour : ℕ) (amount : Cost → ℤ) (cost : Charge → ℤ) : Type 0 where
  of_row : (row : Charge) → amount (row_cost key row) ≡ cost row
  of_rest : (row : Charge) (u : ℕ) → amount (line_cost key (rest_line hour row u)) ≡ cost_left row (cost row) u
  of_lost : (row : Charge) (u : ℕ) → amount (row_lost key row u) ≡ cost_lost row (cost row) u
  whole : (row : Charge) → IsWhole row → pos (unsigned_abs (cost row)) ≡ cost row

billed_amount : (key : List ℕ) (hour : ℕ) → IsAmountOf key hour (λ c. c.billed) (λ row. row.billed)
unfolding rest_line
billed_amount key hour = record { of_row = λ row. refl; of_rest = λ row u. refl; of_lost = λ row u. refl; whole = λ row whole. whole.billed }

effective_amount : (key : List ℕ) (hour : ℕ) → IsAmountOf key hour (λ c. c.effective) (λ row. row.effective)
unfolding rest_line
effective_amount key hour = record { of_row = λ row. refl; of_rest = λ row u. refl; of_lost = λ row u. refl; whole = λ row whole. whole.effective }

-- all of a cost is left, or nothing
left_all : (row : Charge) (cost : ℤ) (u : ℕ) → 0 < quantity_of row → u ≡ quantity_of row → pos (unsigned_abs cost) ≡ cost → cost_left row cost u ≡ cost
left_all row cost u some same whole = ap (λ n. pos (unsigned_abs cost * n / quantity_of row)) same ∙ ap pos (mul-div_cancel (unsigned_abs cost) some) ∙ whole

left_none : (row : Charge) (cost : ℤ) (u : ℕ) → u ≡ 0 → cost_left row cost u ≡ pos 0
left_none row cost u none =
    let product : unsigned_abs cost * u ≡ 0 = (rw none (omega arith)) in
    ap (λ n. pos (n / quantity_of row)) product ∙ ap pos (zero-div (quantity_of row))

-- the sum over one cost
alone : (amount : Cost → ℤ) (c : Cost) (g : List ℕ) (z : ℤ) → amount c ≡ z → sum_in amount (c ∷ []) g ≡ cond (bytes_eq g c.group) z (pos 0)
unfolding sum_in
alone amount c g z is = two_ways (bytes_eq g c.group)
    (λ here. rw (here, is) (omega (arith, ints)))
    (λ other. rw other refl)

nothing : (amount : Cost → ℤ) (g : List ℕ) (b : Bool) (z : ℤ) → z ≡ pos 0 → sum_in amount [] g ≡ cond b z (pos 0)
unfolding sum_in
nothing amount g true z none = sym none
nothing amount g false z none = refl

apart : (b : Bool) (left cost : ℤ) → cond b left (pos 0) ≡ cond b cost (pos 0) +ℤ cond b (left -ℤ cost) (pos 0)
apart true left cost = omega (arith, ints)
apart false left cost = omega (arith, ints)

not_positive : (u : ℕ) → nat_lt 0 u ≡ false → u ≡ 0
not_positive u h = grind (arith, nat_tests)

pub is_less : (u q : ℕ) → u < q → nat_lt u q ≡ true
is_less u q h = grind (arith, nat_tests)

is_whole_left : (u q : ℕ) → q ≤ u → nat_lt u q ≡ false
is_whole_left u q h = grind (arith, nat_tests)

not_less : (u q : ℕ) → u ≤ q → nat_lt u q ≡ false → u ≡ q
not_less u q within h = grind (arith, nat_tests)

-- the rest brings what the row and its correction bring
one_row : (key : List ℕ) (hour : ℕ) (amount : Cost → ℤ) (cost : Charge → ℤ) → IsAmountOf key hour amount cost → (g : List ℕ) (row : Charge) (u : ℕ) → is_eligible row ≡ true → u ≤ quantity_of row
    → sum_in amount (costs_of key (rest_of hour row u)) g ≡ sum_in amount (row_cost key row ∷ []) g +ℤ sum_in amount (correction_of key row u) g
unfolding rest_of correction_of rest_line
one_row key hour amount cost is g row u eligible within =
    let whole = is_whole row eligible in
    let here : Bool = bytes_eq g (group_of key row.tags) in
    let rest : sum_in amount (costs_of key (cond (is_eligible row && nat_lt 0 u) (rest_line hour row u ∷ []) [])) g ≡ cond here (cost_left row (cost row) u) (pos 0) =
    two_ways (nat_lt 0 u)
    (λ some. rw (eligible, some) (by_rest (is.of_rest row u)))
    (λ none. rw (eligible, none) (nothing amount g here (cost_left row (cost row) u) (left_none row (cost row) u (not_positive u none)))) in
    let own : sum_in amount (row_cost key row ∷ []) g ≡ cond here (cost row) (pos 0) = alone amount (row_cost key row) g (cost row) (is.of_row row) in
    let lost : sum_in amount (cond (nat_lt u (quantity_of row) && is_eligible row) (row_lost key row u ∷ []) []) g ≡ cond here (cost_lost row (cost row) u) (pos 0) =
    two_ways (nat_lt u (quantity_of row))
    (λ less. rw (less, eligible) (alone amount (row_lost key row u) g (cost_lost row (cost row) u) (is.of_lost row u)))
    (λ all. rw all (nothing amount g here (cost_lost row (cost row) u) (no_loss (left_all row (cost row) u whole.quantity (not_less u (quantity_of row) within all) (is.whole row whole))))) in
    rest ∙ apart here (cost_left row (cost row) u) (cost row) ∙ (λ j. sym own j +ℤ sym lost j)
  where
    by_rest : amount (line_cost key (rest_line hour row u)) ≡ cost_left row (cost row) u → sum_in amount (line_cost key (rest_line hour row u) ∷ []) g ≡ cond (bytes_eq g (group_of key row.tags)) (cost_left row (cost row) u) (pos 0)
    by_rest e = alone amount (line_cost key (rest_line hour row u)) g (cost_left row (cost row) u) e

    no_loss : cost_left row (cost row) u ≡ cost row → cost_lost row (cost row) u ≡ pos 0
    no_loss e = ap (λ z. z -ℤ cost row) e ∙ omega (arith, ints)

-- ---- rows beside their places

-- what is left of them brings this
abbrev rests_by : List ℕ → ℕ → (ℕ → ℕ) → ℕ × Charge → List Cost
rests_by key hour left r = costs_of key (rest_of hour r.1 (left r.0))

abbrev pub corrections_by : List ℕ → (ℕ → ℕ) → ℕ × Charge → List Cost
corrections_by key left r = correction_of key r.1 (left r.0)

-- no more is left than there was
abbrev IsWithin : (ℕ → ℕ) → ℕ × Charge → Type 0
IsWithin left r = left r.0 ≤ quantity_of r.1

empty : (amount : Cost → ℤ) (g : List ℕ) → sum_in amount [] g ≡ pos 0
unfolding sum_in
empty amount g = refl

never_rest : (key : List ℕ) (hour : ℕ) (row : Charge) (u : ℕ) → is_eligible row ≡ false → costs_of key (rest_of hour row u) ≡ []
unfolding rest_of
never_rest key hour row u never = rw never refl

pub never_lost : (key : List ℕ) (row : Charge) (u : ℕ) → is_eligible row ≡ false → correction_of key row u ≡ []
unfolding correction_of
never_lost key row u never = two_ways (nat_lt u (quantity_of row)) (λ less. rw (less, never) refl) (λ all. rw all refl)

-- nor where nothing was taken
pub none_lost : (key : List ℕ) (row : Charge) (u : ℕ) → quantity_of row ≤ u → correction_of key row u ≡ []
unfolding correction_of
none_lost key row u all = let test : nat_lt u (quantity_of row) ≡ false = is_whole_left u (quantity_of row) all in rw test refl

pub is_lost : (key : List ℕ) (row : Charge) (u : ℕ) → u < quantity_of row → is_eligible row ≡ true → row_lost key row u ∷ [] ≡ correction_of key row u
unfolding correction_of
is_lost key row u less eligible = let test : nat_lt u (quantity_of row) ≡ true = is_less u (quantity_of row) less in rw (test, eligible) refl

rows_balance : (key : List ℕ) (hour : ℕ) (amount : Cost → ℤ) (cost : Charge → ℤ) → IsAmountOf key hour amount cost → (g : List ℕ) (left : ℕ → ℕ) (n : ℕ) (rows : List Charge) → AllByRecursion (IsWithin left) (enumerate_from n rows)
    → sum_in amount (map (row_cost key) (filter (λ row. not (is_eligible row)) rows)) g +ℤ sum_in amount (flat_map (rests_by key hour left) (enumerate_from n rows)) g
    ≡ sum_in amount (map (row_cost key) rows) g +ℤ sum_in amount (flat_map (corrections_by key left) (enumerate_from n rows)) g
rows_balance key hour amount cost is g left n [] within = refl
rows_balance key hour amount cost is g left n (row ∷ rows) within =
    let later = rows_balance key hour amount cost is g left (n + 1) rows within.1 in
    let rests : List Cost = flat_map (rests_by key hour left) (enumerate_from (n + 1) rows) in
    let lost : List Cost = flat_map (corrections_by key left) (enumerate_from (n + 1) rows) in
    let first : sum_in amount (row_cost key row ∷ map (row_cost key) rows) g ≡ sum_in amount (row_cost key row ∷ []) g +ℤ sum_in amount (map (row_cost key) rows) g = sum_in-append amount (row_cost key row ∷ []) (map (row_cost key) rows) g in
    let rests_first = sum_in-append amount (rests_by key hour left (n, row)) rests g in
    let lost_first = sum_in-append amount (corrections_by key left (n, row)) lost g in
    two_ways (is_eligible row)
    (λ eligible.
    let one = one_row key hour amount cost is g row (left n) eligible within.0 in
    rw eligible (omega (arith, ints)))
    (λ never.
    let given : sum_in amount (row_cost key row ∷ map (row_cost key) (filter (λ row. not (is_eligible row)) rows)) g ≡ sum_in amount (row_cost key row ∷ []) g +ℤ sum_in amount (map (row_cost key) (filter (λ row. not (is_eligible row)) rows)) g =
    sum_in-append amount (row_cost key row ∷ []) (map (row_cost key) (filter (λ row. not (is_eligible row)) rows)) g in
    let no_rest : sum_in amount (rests_by key hour left (n, row)) g ≡ pos 0 = ap (λ l. sum_in amount l g) (never_rest key hour row (left n) never) ∙ empty amount g in
    let no_loss : sum_in amount (corrections_by key left (n, row)) g ≡ pos 0 = ap (λ l. sum_in amount l g) (never_lost key row (left n) never) ∙ empty amount g in
    rw never (omega (arith, ints)))

-- no more is left of a row than its quantity
left_at : (taken : List Taken) (before after : List Charge) (row : Charge) → left_of (before ++ row ∷ after) taken (length before) ≤ quantity_of row
unfolding left_of
left_at taken before after row =
    let at : slice_index (quantities_of (before ++ row ∷ after)) (length before) ≡ quantity_of row =
    ap (λ l. get_or l (length before) 0) (map-append quantity_of before (row ∷ after)) ∙ get_or_at (map quantity_of before) (quantity_of row) (map quantity_of after) 0 (length before) (length-map before quantity_of) in
    omega arith

lefts_within : (taken : List Taken) (before after : List Charge) → AllByRecursion (IsWithin (left_of (before ++ after) taken)) (enumerate_from (length before) after)
lefts_within taken before [] = tt
lefts_within taken before (row ∷ after) =
    let same : (before ++ row ∷ []) ++ after ≡ before ++ row ∷ after = append_assoc before (row ∷ []) after in
    let long : length (before ++ row ∷ []) ≡ length before + 1 = length-append before (row ∷ []) in
    (left_at taken before after row, rw (same, long) at (lefts_within taken (before ++ row ∷ []) after))

-- ---- the groups

-- whether some cost is in a group
abbrev Has : List ℕ → List Cost → Bool
Has g costs = list_any (bytes_eq g) (groups_of costs)

-- in a group that no row is in
some_elsewhere : (key g : List ℕ) (p : Charge → Bool) (rows : List Charge) → Has g (map (row_cost key) rows) ≡ false → Has g (map (row_cost key) (filter p rows)) ≡ false
some_elsewhere key g p [] none = refl
some_elsewhere key g p (row ∷ rows) none =
    let both = neither (bytes_eq g (group_of key row.tags)) (Has g (map (row_cost key) rows)) none in
    let rest = some_elsewhere key g p rows both.1 in
    two_ways (p row)
    (λ yes. rw yes (ap (λ b. b || Has g (map (row_cost key) (filter p rows))) both.0 ∙ rest))
    (λ no. rw no rest)

each_elsewhere : (key g : List ℕ) (f : ℕ × Charge → List Cost) → ((r : ℕ × Charge) → bytes_eq g (group_of key r.1.tags) ≡ false → Has g (f r) ≡ false) → (n : ℕ) (rows : List Charge) → Has g (map (row_cost key) rows) ≡ false
    → Has g (flat_map f (enumerate_from n rows)) ≡ false
each_elsewhere key g f each n [] none = refl
each_elsewhere key g f each n (row ∷ rows) none =
    let both = neither (bytes_eq g (group_of key row.tags)) (Has g (map (row_cost key) rows)) none in
    there-append (f (n, row)) (flat_map f (enumerate_from (n + 1) rows)) g
    ∙ ap (λ b. b || Has g (flat_map f (enumerate_from (n + 1) rows))) (each (n, row) both.0)
    ∙ each_elsewhere key g f each (n + 1) rows both.1

rest_elsewhere : (key g : List ℕ) (hour : ℕ) (row : Charge) (u : ℕ) → bytes_eq g (group_of key row.tags) ≡ false → Has g (costs_of key (rest_of hour row u)) ≡ false
unfolding rest_of rest_line
rest_elsewhere key g hour row u other = two_ways (is_eligible row && nat_lt 0 u) (λ yes. rw yes (ap (λ b. b || false) other)) (λ no. rw no refl)

lost_elsewhere : (key g : List ℕ) (row : Charge) (u : ℕ) → bytes_eq g (group_of key row.tags) ≡ false → Has g (correction_of key row u) ≡ false
unfolding correction_of
lost_elsewhere key g row u other = two_ways (nat_lt u (quantity_of row) && is_eligible row) (λ yes. rw yes (ap (λ b. b || false) other)) (λ no. rw no refl)

-- in a group that a row is in, there is a line
some_row_in : (key g : List ℕ) (rows : List Charge) → Has g (map (row_cost key) rows) ≡ true → (r : ℕ) × (row : Charge) × (slice_get rows r ≡ Some row) × (bytes_eq g (group_of key row.tags) ≡ true)
some_row_in key g [] found = absurd (cc)
some_row_in key g (row ∷ rows) found = two_ways (bytes_eq g (group_of key row.tags))
    (λ here. (0, row, refl, here))
    (λ other.
    let later = some_row_in key g rows (sym (ap (λ b. b || Has g (map (row_cost key) rows)) other) ∙ found) in
    (suc later.0, later.1, later.2, later.3))

lines_has : (key g : List ℕ) (lines : List LineValue) → list_any (λ line. bytes_eq g (group_of key line.tags)) lines ≡ Has g (costs_of key lines)
lines_has key g [] = refl
lines_has key g (line ∷ lines) = ap (λ b. bytes_eq g (group_of key line.tags) || b) (lines_has key g lines)

row_there : (key g : List ℕ) (cs : List CommitmentValue) (rows : List Charge) (hour : ℕ) (lines : List LineValue) → AreHourLines cs rows hour lines → Has g (map (row_cost key) rows) ≡ true → Has g (costs_of key lines) ≡ true
row_there key g cs rows hour lines are found =
    let row = some_row_in key g rows found in
    sym (lines_has key g lines) ∙ row_tagged cs rows hour lines row.0 row.1 (λ tags. bytes_eq g (group_of key tags)) are row.2 row.3

-- ---- the parts together

-- of what came before, of the rows, of what corrects them, and of purchases, given rows, shares and rests
parts_sum : (amount : Cost → ℤ) (key g : List ℕ) (before rows lost : List Cost) (bought given shared rests : List LineValue)
    → sum_in amount (costs_of key given) g +ℤ sum_in amount (costs_of key rests) g ≡ sum_in amount rows g +ℤ sum_in amount lost g
    → sum_in amount (((before ++ rows) ++ costs_of key (bought ++ shared)) ++ lost) g ≡ sum_in amount (before ++ costs_of key (bought ++ given ++ shared ++ rests)) g
parts_sum amount key g before rows lost bought given shared rests balance =
    let a = sum_in-append amount ((before ++ rows) ++ costs_of key (bought ++ shared)) lost g in
    let b = sum_in-append amount (before ++ rows) (costs_of key (bought ++ shared)) g in
    let c = sum_in-append amount before rows g in
    let d = lines_sum-append amount key bought shared g in
    let e = sum_in-append amount before (costs_of key (bought ++ given ++ shared ++ rests)) g in
    let f = lines_sum-append amount key (bought ++ given ++ shared) rests g in
    let h = lines_sum-append amount key (bought ++ given) shared g in
    let i = lines_sum-append amount key bought given g in
    omega (arith, ints)

or_true : (b : Bool) → (b || true) ≡ true
or_true true = refl
or_true false = refl

-- whether each part is there
parts_agree : (b w p s c g r : Bool) → (w ≡ false → (g ≡ false) × (r ≡ false) × (c ≡ false)) → (w ≡ true → (((p || g) || s) || r) ≡ true) → (((b || w) || (p || s)) || c) ≡ (b || (((p || g) || s) || r))
parts_agree b true p s c g r none some = (λ j. ((or_true b j || (p || s)) || c)) ∙ sym (or_true b) ∙ ap (λ x. b || x) (sym (some refl))
parts_agree b false p s c g r none some =
    let out = none refl in
    (λ j. ((b || false) || (p || s)) || out.2 j) ∙ plain b p s ∙ (λ j. b || (((p || sym out.0 j) || s) || sym out.1 j))
  where
    plain : (b p s : Bool) → (((b || false) || (p || s)) || false) ≡ (b || (((p || false) || s) || false))
    plain true p s = refl
    plain false true s = refl
    plain false false true = refl
    plain false false false = refl

parts_there : (key g : List ℕ) (before rows lost : List Cost) (bought given shared rests : List LineValue)
    → (Has g rows ≡ false → (Has g (costs_of key given) ≡ false) × (Has g (costs_of key rests) ≡ false) × (Has g lost ≡ false))
    → (Has g rows ≡ true → Has g (costs_of key (bought ++ given ++ shared ++ rests)) ≡ true)
    → Has g (((before ++ rows) ++ costs_of key (bought ++ shared)) ++ lost) ≡ Has g (before ++ costs_of key (bought ++ given ++ shared ++ rests))
parts_there key g before rows lost bought given shared rests none some =
    let lines : Has g (costs_of key (bought ++ given ++ shared ++ rests)) ≡ (((Has g (costs_of key bought) || Has g (costs_of key given)) || Has g (costs_of key shared)) || Has g (costs_of key rests)) =
    lines_there-append key (bought ++ given ++ shared) rests g
    ∙ ap (λ x. x || Has g (costs_of key rests)) (lines_there-append key (bought ++ given) shared g ∙ ap (λ x. x || Has g (costs_of key shared)) (lines_there-append key bought given g)) in
    let parts : Has g (((before ++ rows) ++ costs_of key (bought ++ shared)) ++ lost) ≡ (((Has g before || Has g rows) || (Has g (costs_of key bought) || Has g (costs_of key shared))) || Has g lost) =
    there-append ((before ++ rows) ++ costs_of key (bought ++ shared)) lost g
    ∙ ap (λ x. x || Has g lost) (there-append (before ++ rows) (costs_of key (bought ++ shared)) g ∙ (λ j. there-append before rows g j || lines_there-append key bought shared g j)) in
    parts
    ∙ parts_agree (Has g before) (Has g rows) (Has g (costs_of key bought)) (Has g (costs_of key shared)) (Has g lost) (Has g (costs_of key given)) (Has g (costs_of key rests)) none (λ found. sym lines ∙ some found)
    ∙ ap (λ x. Has g before || x) (sym lines)
    ∙ sym (there-append before (costs_of key (bought ++ given ++ shared ++ rests)) g)

-- ---- the rows of an hour, corrected, with the commitments' own lines

costs_flat : {X : Type 0} (key : List ℕ) (f : X → List LineValue) (xs : List X) → costs_of key (flat_map f xs) ≡ flat_map (λ x. costs_of key (f x)) xs
costs_flat key f [] = refl
costs_flat key f (x ∷ xs) = map-append (line_cost key) (f x) (flat_map f xs) ∙ ap (λ l. costs_of key (f x) ++ l) (costs_flat key f xs)

-- what is left of rows of which this was taken
rests_are : (key : List ℕ) (rows : List Charge) (taken : List Taken) (hour : ℕ) → costs_of key (rest_lines rows taken hour) ≡ flat_map (rests_by key hour (left_of rows taken)) (enumerate_from 0 rows)
unfolding rest_lines
rests_are key rows taken hour = costs_flat key (λ r. rest_of hour r.1 (left_of rows taken r.0)) (enumerate_from 0 rows)

corrections_are : (key : List ℕ) (rows : List Charge) (left : ℕ → ℕ) → corrections key rows left ≡ flat_map (corrections_by key left) (enumerate_from 0 rows)
unfolding corrections
corrections_are key rows left = refl

hour_balance : (key : List ℕ) (hour : ℕ) (amount : Cost → ℤ) (cost : Charge → ℤ) → IsAmountOf key hour amount cost → (g : List ℕ) (rows : List Charge) (taken : List Taken)
    → sum_in amount (costs_of key (given_lines rows hour)) g +ℤ sum_in amount (costs_of key (rest_lines rows taken hour)) g ≡ sum_in amount (map (row_cost key) rows) g +ℤ sum_in amount (corrections key rows (left_of rows taken)) g
hour_balance key hour amount cost is g rows taken =
    (λ j. sum_in amount (given_part key rows hour j) g +ℤ sum_in amount (rests_are key rows taken hour j) g)
    ∙ rows_balance key hour amount cost is g (left_of rows taken) 0 rows (lefts_within taken [] rows)
    ∙ (λ j. sum_in amount (map (row_cost key) rows) g +ℤ sum_in amount (sym (corrections_are key rows (left_of rows taken)) j) g)

elsewhere : (key g : List ℕ) (rows : List Charge) (taken : List Taken) (hour : ℕ) → Has g (map (row_cost key) rows) ≡ false
    → (Has g (costs_of key (given_lines rows hour)) ≡ false) × (Has g (costs_of key (rest_lines rows taken hour)) ≡ false) × (Has g (corrections key rows (left_of rows taken)) ≡ false)
elsewhere key g rows taken hour none = (
  ap (Has g) (given_part key rows hour) ∙ some_elsewhere key g (λ row. not (is_eligible row)) rows none,
  ap (Has g) (rests_are key rows taken hour) ∙ each_elsewhere key g (rests_by key hour (left_of rows taken)) (λ r other. rest_elsewhere key g hour r.1 (left_of rows taken r.0) other) 0 rows none,
  ap (Has g) (corrections_are key rows (left_of rows taken)) ∙ each_elsewhere key g (corrections_by key (left_of rows taken)) (λ r other. lost_elsewhere key g r.1 (left_of rows taken r.0) other) 0 rows none,
)

-- where the rows of an hour were counted after other costs, and then the commitments' own lines and the corrections, the lines of the hour were
pub hour_corrected : (groups : Groups) (before : List Cost) (key : List ℕ) (cs : List CommitmentValue) (rows : List Charge) (hour : ℕ) (own : List LineValue) → AreOwnLines cs rows hour own
    → Counts groups (((before ++ map (row_cost key) rows) ++ costs_of key own) ++ corrections key rows (left_of rows (hour_cover cs rows hour))) → CountsHour groups before key cs rows hour
hour_corrected groups before key cs rows hour own are counts =
    let taken : List Taken = hour_cover cs rows hour in
    let bought = purchase_lines cs hour in
    let given = given_lines rows hour in
    let shared = flat_map (λ (ls : List LineValue). ls) are.shared in
    let rests = rest_lines rows taken hour in
    let lost = corrections key rows (left_of rows taken) in
    let lines : AreHourLines cs rows hour (bought ++ given ++ shared ++ rests) = record { shared = are.shared; are_shared = are.are_shared; are_lines = refl } in
    record {
      lines = bought ++ given ++ shared ++ rests;
      are_lines = lines;
      counts =
          Counts-same groups (((before ++ map (row_cost key) rows) ++ costs_of key (bought ++ shared)) ++ lost) (before ++ costs_of key (bought ++ given ++ shared ++ rests))
          (record {
            there = λ g. parts_there key g before (map (row_cost key) rows) lost bought given shared rests (elsewhere key g rows taken hour) (row_there key g cs rows hour (bought ++ given ++ shared ++ rests) lines);
            billed = λ g. parts_sum (λ c. c.billed) key g before (map (row_cost key) rows) lost bought given shared rests (hour_balance key hour (λ c. c.billed) (λ row. row.billed) (billed_amount key hour) g rows taken);
            effective = λ g. parts_sum (λ c. c.effective) key g before (map (row_cost key) rows) lost bought given shared rests (hour_balance key hour (λ c. c.effective) (λ row. row.effective) (effective_amount key hour) g rows taken);
          })
          (subst (λ l. Counts groups (((before ++ map (row_cost key) rows) ++ costs_of key l) ++ lost)) are.are_lines counts);
    }
