-- What was covered, and what is left of what could have been, cost what could have been covered.
use Rattle.std.proofs.Common.{◌≡◌, ◌∙◌, ℕ, zero, suc, pos, ◌+ℤ◌, ◌+◌, ◌==◌, Bool, true, false, List, [], ◌∷◌, All, Some, ap, arith, cond, refl, sum_by, sym}
use Rattle.std.specs.Prelude.{slice_get}
use Rattle.std.specs.List.{enumerate_from, flat_map, list_any}
use Rattle.std.proofs.lemmas.Bool.{eqb-true}
use Rattle.std.proofs.lemmas.Int.{ints}
use Rattle.std.proofs.lemmas.List.Elements.{All-head, All-tail}
use Rattle.std.proofs.lemmas.List.Sums.{sum_by-cons}
use Rattle.fw_charge.specs.Charge.{Charge}
use Rattle.fw_terms.specs.Commitment.{CommitmentValue}
use Rattle.fw_cover.specs.Cover.{taken_of_row}
use Rattle.fw_cover.specs.Eligible.{is_eligible}
use Rattle.fw_cover.specs.Hour.{hour_cover, left_of, quantity_of}
use Rattle.fw_cover.specs.Meeting.{Meets}
use Rattle.fw_cover.specs.declared.taken.Taken.{Taken}
use Rattle.fw_cover.proofs.Sorting.{two_ways}
use Rattle.fw_cover.proofs.Whole.{takes_meet}
use Rattle.fw_cover.proofs.Within.{eligible_from}
use Rattle.fw_amortise.specs.Carrying.{cost_of_all}
use Rattle.fw_amortise.specs.Lines.{given_line, rest_of, rows_in}
use Rattle.fw_finops.specs.Costs.{coverable_in, coverable_lines, covered_in, left_cost, open_cost, uncovered_in, uncovered_lines, uncovered_of}
use Rattle.fw_finops.specs.Lines.{applies, coverable_line, coverable_of, covered_lines}
use Rattle.fw_finops.proofs.LawFacts.{cost_append, cost_none, cost_one, first_left, rest_costs, takes_cost, whole_cost}

-- whether some commitment applies to a row
abbrev is_open : List CommitmentValue → ℕ → Charge → Bool
is_open cs hour row = list_any (applies hour row) cs

-- ---- a row to which none applies is taken from nothing
any_at : {X : Type 0} (p : X → Bool) (xs : List X) (k : ℕ) (x : X) → slice_get xs k ≡ Some x → p x ≡ true → list_any p xs ≡ true
any_at p [] k x at holds = absurd (cc)
any_at p (y ∷ ys) zero x at holds = let same : y ≡ x = (let e : Some y ≡ Some x = at in cc) in rw (same, holds) refl
any_at p (y ∷ ys) (suc k) x at holds = two_ways (p y) (λ yes. rw yes refl) (λ no. rw no (any_at p ys k x at holds))

untaken : (cs : List CommitmentValue) (rows : List Charge) (hour r : ℕ) (row : Charge) (ts : List Taken) → slice_get rows r ≡ Some row → is_open cs hour row ≡ false → All (λ t. Meets cs rows hour t.commitment t.row) ts → taken_of_row r ts ≡ 0
unfolding taken_of_row applies
untaken cs rows hour r row [] at none meets = refl
untaken cs rows hour r row (t ∷ ts) at none meets =
    let M : Taken → Type 0 = λ t. Meets cs rows hour t.commitment t.row in
    let m = All-head M t ts meets in
    let rest = untaken cs rows hour r row ts at none (All-tail M t ts meets) in
    let sum = sum_by-cons (λ (t : Taken). cond (t.row == r) t.quantity 0) t ts in
    let here : cond (t.row == r) t.quantity 0 ≡ 0 = two_ways (t.row == r)
    (λ same. absurd (
    let there : slice_get rows t.row ≡ Some row = ap (slice_get rows) (eqb-true t.row r same) ∙ at in
    let charge : m.charge ≡ row = (let e : Some m.charge ≡ Some row = sym m.at_row ∙ there in cc) in
    let some : is_open cs hour row ≡ true = any_at (applies hour row) cs t.commitment m.commitment m.at_place (rw charge at m.applies) in
    let clash : true ≡ false = sym some ∙ none in cc))
    (λ other. rw other refl) in
    omega (arith, rest, sum, here)

-- ---- sums over the rows to which some commitment applies, and over the others
parted_sum : (p : Charge → Bool) (f : ℕ × Charge → ℕ) (rows : List (ℕ × Charge)) → sum_by f rows ≡ sum_by (λ r. cond (p r.1) (f r) 0) rows + sum_by (λ r. cond (p r.1) 0 (f r)) rows
parted_sum p f [] = refl
parted_sum p f (r ∷ rows) =
    let rest = parted_sum p f rows in
    let all = sum_by-cons f r rows in
    let some = sum_by-cons (λ (r : ℕ × Charge). cond (p r.1) (f r) 0) r rows in
    let others = sum_by-cons (λ (r : ℕ × Charge). cond (p r.1) 0 (f r)) r rows in
    let here : f r ≡ cond (p r.1) (f r) 0 + cond (p r.1) 0 (f r) = two_ways (p r.1) (λ yes. rw yes (omega arith)) (λ no. rw no (omega arith)) in
    omega (arith, rest, all, some, others, here)

others_same : (p : Charge → Bool) (u v : ℕ → ℕ) (n : ℕ) (rows : List Charge) → ((i : ℕ) (row : Charge) → slice_get rows i ≡ Some row → p row ≡ false → u (n + i) ≡ v (n + i))
    → sum_by (λ r. cond (p r.1) 0 (open_cost r.1 (u r.0))) (enumerate_from n rows) ≡ sum_by (λ r. cond (p r.1) 0 (open_cost r.1 (v r.0))) (enumerate_from n rows)
others_same p u v n [] same = refl
others_same p u v n (row ∷ rows) same =
    let rest = others_same p u v (n + 1) rows
    (λ i r at no. let next : (n + 1) + i ≡ n + suc i = omega arith in ap u next ∙ same (suc i) r at no ∙ ap v (sym next)) in
    let here : cond (p row) 0 (open_cost row (u n)) ≡ cond (p row) 0 (open_cost row (v n)) = two_ways (p row)
    (λ yes. rw yes refl)
    (λ no. let first : n ≡ n + 0 = omega arith in rw no (ap (open_cost row) (ap u first ∙ same 0 row refl no ∙ ap v (sym first)))) in
    let a = sum_by-cons (λ (r : ℕ × Charge). cond (p r.1) 0 (open_cost r.1 (u r.0))) (n, row) (enumerate_from (n + 1) rows) in
    let b = sum_by-cons (λ (r : ℕ × Charge). cond (p r.1) 0 (open_cost r.1 (v r.0))) (n, row) (enumerate_from (n + 1) rows) in
    omega (arith, rest, here, a, b)

-- ---- what could have been covered costs, and what is left of it
uncovered_cost : (cs : List CommitmentValue) (hour : ℕ) (u : ℕ → ℕ) (n : ℕ) (rows : List Charge)
    → cost_of_all (flat_map (λ (r : ℕ × Charge). uncovered_of cs hour r.1 (u r.0)) (enumerate_from n rows)) ≡ pos (sum_by (λ r. cond (is_open cs hour r.1) (open_cost r.1 (u r.0)) 0) (enumerate_from n rows))
unfolding uncovered_of
uncovered_cost cs hour u n [] = cost_none
uncovered_cost cs hour u n (row ∷ rows) =
    let rest = uncovered_cost cs hour u (n + 1) rows in
    let first : cost_of_all (cond (is_open cs hour row) (rest_of hour row (u n)) []) ≡ pos (cond (is_open cs hour row) (open_cost row (u n)) 0) = two_ways (is_open cs hour row)
    (λ yes. rw yes (rest_costs hour row (u n)))
    (λ no. rw no cost_none) in
    let sum = sum_by-cons (λ (r : ℕ × Charge). cond (is_open cs hour r.1) (open_cost r.1 (u r.0)) 0) (n, row) (enumerate_from (n + 1) rows) in
    let both = cost_append (cond (is_open cs hour row) (rest_of hour row (u n)) []) (flat_map (λ (r : ℕ × Charge). cond (is_open cs hour r.1) (rest_of hour r.1 (u r.0)) []) (enumerate_from (n + 1) rows)) in
    omega (arith, ints, rest, first, sum, both)

-- a row to which some commitment applies may be covered
pub open_eligible : (cs : List CommitmentValue) (hour : ℕ) (row : Charge) → is_open cs hour row ≡ true → is_eligible row ≡ true
unfolding applies
open_eligible [] hour row some = absurd (cc)
open_eligible (c ∷ cs) hour row some = two_ways (applies hour row c)
    (λ yes. eligible_from c hour row yes)
    (λ no. open_eligible cs hour row (rw no at some))

coverable_cost : (cs : List CommitmentValue) (hour n : ℕ) (rows : List Charge) (u : ℕ → ℕ) → ((k : ℕ) (row : Charge) → slice_get rows k ≡ Some row → u (n + k) ≡ quantity_of row)
    → cost_of_all (flat_map (coverable_of cs hour) rows) ≡ pos (sum_by (λ r. cond (is_open cs hour r.1) (open_cost r.1 (u r.0)) 0) (enumerate_from n rows))
unfolding coverable_of coverable_line given_line open_cost
coverable_cost cs hour n [] u is = cost_none
coverable_cost cs hour n (row ∷ rows) u is =
    let rest = coverable_cost cs hour (n + 1) rows u (λ k r at. let place : (n + 1) + k ≡ n + suc k = omega arith in ap u place ∙ is (suc k) r at) in
    let here : u n ≡ quantity_of row = (let place : n ≡ n + 0 = omega arith in ap u place ∙ is 0 row refl) in
    let first : cost_of_all (cond (is_open cs hour row) (coverable_line hour row ∷ []) []) ≡ pos (cond (is_open cs hour row) (open_cost row (u n)) 0) = two_ways (is_open cs hour row)
    (λ yes.
    let may : is_eligible row ≡ true = open_eligible cs hour row yes in
    rw (yes, may, here) (cost_one (coverable_line hour row) ∙ sym (whole_cost hour row may)))
    (λ no. rw no cost_none) in
    let sum = sum_by-cons (λ (r : ℕ × Charge). cond (is_open cs hour r.1) (open_cost r.1 (u r.0)) 0) (n, row) (enumerate_from (n + 1) rows) in
    let both = cost_append (cond (is_open cs hour row) (coverable_line hour row ∷ []) []) (flat_map (coverable_of cs hour) rows) in
    omega (arith, ints, rest, first, sum, both)

-- ---- an hour
same_left : (cs : List CommitmentValue) (rows : List Charge) (hour : ℕ) (ts : List Taken) (r : ℕ) (row : Charge) → slice_get rows r ≡ Some row → is_open cs hour row ≡ false → All (λ t. Meets cs rows hour t.commitment t.row) ts → left_of rows ts r ≡ left_of rows [] r
unfolding left_of taken_of_row
same_left cs rows hour ts r row at none meets = let nothing = untaken cs rows hour r row ts at none meets in omega (arith, nothing)

parts_of_hour : (cs : List CommitmentValue) (rows : List Charge) (hour : ℕ) → cost_of_all (covered_lines cs rows hour) +ℤ cost_of_all (uncovered_lines cs rows hour) ≡ cost_of_all (coverable_lines cs rows hour)
unfolding covered_lines uncovered_lines coverable_lines left_cost
parts_of_hour cs rows hour =
    let taken : List Taken = hour_cover cs rows hour in
    let meets = takes_meet cs rows hour in
    let takes = takes_cost cs rows hour [] taken meets in
    let left = uncovered_cost cs hour (left_of rows taken) 0 rows in
    let whole = coverable_cost cs hour 0 rows (left_of rows []) (λ k row at. ap (left_of rows []) (let z : 0 + k ≡ k = omega arith in z) ∙ first_left rows k row at) in
    let before = parted_sum (is_open cs hour) (λ r. open_cost r.1 (left_of rows [] r.0)) (enumerate_from 0 rows) in
    let after = parted_sum (is_open cs hour) (λ r. open_cost r.1 (left_of rows taken r.0)) (enumerate_from 0 rows) in
    let others = others_same (is_open cs hour) (left_of rows taken) (left_of rows []) 0 rows (λ i row at none. same_left cs rows hour taken (0 + i) row (let z : 0 + i ≡ i = omega arith in ap (slice_get rows) z ∙ at) none meets) in
    omega (arith, ints, takes, left, whole, before, after, others)

-- ---- hours in turn
pub parts_of_hours : (cs : List CommitmentValue) (rows : List Charge) (hours : List ℕ) → cost_of_all (covered_in cs rows hours) +ℤ cost_of_all (uncovered_in cs rows hours) ≡ cost_of_all (coverable_in cs rows hours)
unfolding covered_in uncovered_in coverable_in
parts_of_hours cs rows [] = rw cost_none (omega (arith, ints))
parts_of_hours cs rows (hour ∷ hours) =
    let rest = parts_of_hours cs rows hours in
    let here = parts_of_hour cs (rows_in hour rows) hour in
    let covered = cost_append (covered_lines cs (rows_in hour rows) hour) (flat_map (λ h. covered_lines cs (rows_in h rows) h) hours) in
    let left = cost_append (uncovered_lines cs (rows_in hour rows) hour) (flat_map (λ h. uncovered_lines cs (rows_in h rows) h) hours) in
    let whole = cost_append (coverable_lines cs (rows_in hour rows) hour) (flat_map (λ h. coverable_lines cs (rows_in h rows) h) hours) in
    omega (arith, ints, rest, here, covered, left, whole)
