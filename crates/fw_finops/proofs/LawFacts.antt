-- What was taken of the rows of an hour, and what is left of them, cost what the rows do.
use Rattle.std.proofs.Common.{◌≡◌, ◌∙◌, ℕ, pos, ◌+ℤ◌, ◌+◌, ◌-◌, ◌*◌, ◌/◌, true, List, [], ◌∷◌, ◌++◌, All, Some, append-nil, append_assoc, arith, ap, filter, fold, map, nat_lt, refl, suc, sum_by, sym}
use Rattle.std.specs.Prelude.{slice_get, unsigned_abs}
use Rattle.std.specs.List.{enumerate_from, flat_map}
use Rattle.std.proofs.lemmas.Bool.Decides.{nat_tests}
use Rattle.std.proofs.lemmas.Int.{ints}
use Rattle.std.proofs.lemmas.List.{map-append}
use Rattle.std.proofs.lemmas.List.Elements.{All-head, All-tail}
use Rattle.std.proofs.lemmas.List.Sums.{fold-append, sum_by-cons}
use Rattle.fw_charge.specs.Charge.{Charge}
use Rattle.fw_terms.specs.Commitment.{CommitmentValue}
use Rattle.fw_cover.specs.Cover.{taken_of_row}
use Rattle.fw_cover.specs.Eligible.{is_eligible}
use Rattle.fw_cover.specs.Hour.{hour_cover, left_of, quantity_of}
use Rattle.fw_cover.specs.Meeting.{Meets}
use Rattle.fw_cover.specs.declared.taken.Taken.{Taken}
use Rattle.fw_cover.proofs.Filling.{number_at}
use Rattle.fw_cover.proofs.Sorting.{two_ways}
use Rattle.fw_cover.proofs.Whole.{takes_meet}
use Rattle.fw_cover.proofs.Within.{eligible_from}
use Rattle.fw_amortise.specs.Carrying.{cost_of_all}
use Rattle.fw_amortise.specs.LineValue.{LineValue}
use Rattle.fw_amortise.specs.Lines.{given_line, rest_line, rest_lines, rest_of}
use Rattle.fw_amortise.proofs.Carrying.{fold_from}
use Rattle.fw_amortise.proofs.Costs.{whole_rest}
use Rattle.fw_finops.specs.Costs.{left_cost, open_cost, whole_lines}
use Rattle.fw_finops.specs.Lines.{covered_after, covered_line, covered_lines}
use Rattle.fw_finops.specs.Prices.{cost_of_left, taken_cost}
use Rattle.fw_finops.proofs.CostFacts.{take_costs}

-- ---- sums of costs
pub cost_append : (xs ys : List LineValue) → cost_of_all (xs ++ ys) ≡ cost_of_all xs +ℤ cost_of_all ys
unfolding cost_of_all
cost_append xs ys =
    ap (fold ◌+ℤ◌ (pos 0)) (map-append (λ (line : LineValue). line.effective) xs ys)
    ∙ fold-append ◌+ℤ◌ (pos 0) (map (λ (line : LineValue). line.effective) xs) (map (λ (line : LineValue). line.effective) ys)
    ∙ fold_from (fold ◌+ℤ◌ (pos 0) (map (λ (line : LineValue). line.effective) xs)) (map (λ (line : LineValue). line.effective) ys)

pub cost_one : (line : LineValue) → cost_of_all (line ∷ []) ≡ line.effective
unfolding cost_of_all
cost_one line = omega (arith, ints)

pub cost_none : cost_of_all [] ≡ pos 0
unfolding cost_of_all
cost_none = refl

pub cost_cons : (line : LineValue) (lines : List LineValue) → cost_of_all (line ∷ lines) ≡ line.effective +ℤ cost_of_all lines
cost_cons line lines = cost_append (line ∷ []) lines ∙ ap (λ x. x +ℤ cost_of_all lines) (cost_one line)

-- ---- takes
covered_cost : (hour : ℕ) (c : CommitmentValue) (row : Charge) (t : Taken) (before : ℕ) → (covered_line hour c row t before).effective ≡ pos (taken_cost row.effective row before (before - t.quantity))
unfolding covered_line
covered_cost hour c row t before = refl

-- what takes cost, and what they leave of the rows, costs what was left before them
pub takes_cost : (cs : List CommitmentValue) (rows : List Charge) (hour : ℕ) (done ts : List Taken) → All (λ t. Meets cs rows hour t.commitment t.row) ts
    → cost_of_all (covered_after cs rows hour done ts) +ℤ pos (left_cost rows (done ++ ts)) ≡ pos (left_cost rows done)
takes_cost cs rows hour done [] meets = rw (append-nil done, cost_none) (omega (arith, ints))
takes_cost cs rows hour done (t ∷ ts) meets =
    let M : Taken → Type 0 = λ t. Meets cs rows hour t.commitment t.row in
    let m = All-head M t ts meets in
    let before : ℕ = left_of rows done t.row in
    let line : LineValue = covered_line hour m.commitment m.charge t before in
    let rest : cost_of_all (covered_after cs rows hour (done ++ t ∷ []) ts) +ℤ pos (left_cost rows ((done ++ t ∷ []) ++ ts)) ≡ pos (left_cost rows (done ++ t ∷ [])) =
    takes_cost cs rows hour (done ++ t ∷ []) ts (All-tail M t ts meets) in
    let less : left_cost rows done ≡ left_cost rows (done ++ t ∷ []) + taken_cost m.charge.effective m.charge before (before - t.quantity) =
    take_costs rows done t m.charge m.at_row (eligible_from m.commitment hour m.charge m.applies) in
    let split : covered_after cs rows hour done (t ∷ ts) ≡ line ∷ covered_after cs rows hour (done ++ t ∷ []) ts = rw (m.at_place, m.at_row) refl in
    let cost : cost_of_all (covered_after cs rows hour done (t ∷ ts)) ≡ pos (taken_cost m.charge.effective m.charge before (before - t.quantity)) +ℤ cost_of_all (covered_after cs rows hour (done ++ t ∷ []) ts) =
    ap cost_of_all split ∙ cost_cons line (covered_after cs rows hour (done ++ t ∷ []) ts) ∙ ap (λ x. x +ℤ cost_of_all (covered_after cs rows hour (done ++ t ∷ []) ts)) (covered_cost hour m.commitment m.charge t before) in
    let joined : (done ++ t ∷ []) ++ ts ≡ done ++ t ∷ ts = append_assoc done (t ∷ []) ts in
    let last : left_cost rows ((done ++ t ∷ []) ++ ts) ≡ left_cost rows (done ++ t ∷ ts) = ap (left_cost rows) joined in
    omega (arith, ints, rest, less, cost, last)

-- ---- what is left
nothing_costs : (row : Charge) → cost_of_left row.effective row 0 ≡ 0
unfolding cost_of_left
nothing_costs row = zero_part (unsigned_abs row.effective) (quantity_of row)
  where
    zero_part : (a q : ℕ) → a * 0 / q ≡ 0
    zero_part a q = grind arith

pub rest_costs : (hour : ℕ) (row : Charge) (u : ℕ) → cost_of_all (rest_of hour row u) ≡ pos (open_cost row u)
unfolding rest_of open_cost rest_line cost_of_left
rest_costs hour row u = two_ways (is_eligible row)
    (λ yes. two_ways (nat_lt 0 u)
    (λ some. rw (yes, some) (cost_one (rest_line hour row u)))
    (λ none. let zero : u ≡ 0 = grind (arith, nat_tests) in rw (yes, none) (cost_none ∙ ap pos (sym (ap (cost_of_left row.effective row) zero ∙ nothing_costs row)))))
    (λ no. rw no cost_none)

rests_cost : (hour : ℕ) (u : ℕ → ℕ) (n : ℕ) (rows : List Charge) → cost_of_all (flat_map (λ (r : ℕ × Charge). rest_of hour r.1 (u r.0)) (enumerate_from n rows)) ≡ pos (sum_by (λ r. open_cost r.1 (u r.0)) (enumerate_from n rows))
rests_cost hour u n [] = cost_none
rests_cost hour u n (row ∷ rows) =
    let rest = rests_cost hour u (n + 1) rows in
    let first = rest_costs hour row (u n) in
    let sum = sum_by-cons (λ (r : ℕ × Charge). open_cost r.1 (u r.0)) (n, row) (enumerate_from (n + 1) rows) in
    let both = cost_append (rest_of hour row (u n)) (flat_map (λ (r : ℕ × Charge). rest_of hour r.1 (u r.0)) (enumerate_from (n + 1) rows)) in
    omega (arith, ints, rest, first, sum, both)

pub rests_cost_what_is_left : (rows : List Charge) (taken : List Taken) (hour : ℕ) → cost_of_all (rest_lines rows taken hour) ≡ pos (left_cost rows taken)
unfolding rest_lines left_cost
rests_cost_what_is_left rows taken hour = rests_cost hour (left_of rows taken) 0 rows

-- ---- the whole
pub whole_cost : (hour : ℕ) (row : Charge) → is_eligible row ≡ true → pos (cost_of_left row.effective row (quantity_of row)) ≡ row.effective
unfolding rest_line cost_of_left given_line
whole_cost hour row eligible = ap (λ (line : LineValue). line.effective) (whole_rest hour row eligible)

pub first_left : (rows : List Charge) (k : ℕ) (row : Charge) → slice_get rows k ≡ Some row → left_of rows [] k ≡ quantity_of row
unfolding left_of taken_of_row
first_left rows k row at = let here = number_at quantity_of rows k row at in omega (arith, here)

given_cons : (hour : ℕ) (row : Charge) (rows : List Charge) → cost_of_all (map (given_line hour) (row ∷ rows)) ≡ row.effective +ℤ cost_of_all (map (given_line hour) rows)
unfolding given_line
given_cons hour row rows = cost_cons (given_line hour row) (map (given_line hour) rows)

wholes_cost : (hour n : ℕ) (rows : List Charge) (u : ℕ → ℕ) → ((k : ℕ) (row : Charge) → slice_get rows k ≡ Some row → u (n + k) ≡ quantity_of row)
    → pos (sum_by (λ r. open_cost r.1 (u r.0)) (enumerate_from n rows)) ≡ cost_of_all (map (given_line hour) (filter is_eligible rows))
unfolding open_cost
wholes_cost hour n [] u is = sym cost_none
wholes_cost hour n (row ∷ rows) u is =
    let rest = wholes_cost hour (n + 1) rows u (λ k r at. let place : (n + 1) + k ≡ n + suc k = omega arith in ap u place ∙ is (suc k) r at) in
    let here : u n ≡ quantity_of row = (let place : n ≡ n + 0 = omega arith in ap u place ∙ is 0 row refl) in
    let sum = sum_by-cons (λ (r : ℕ × Charge). open_cost r.1 (u r.0)) (n, row) (enumerate_from (n + 1) rows) in
    two_ways (is_eligible row)
    (λ yes.
    let own : pos (open_cost row (u n)) ≡ row.effective = rw (yes, here) (whole_cost hour row yes) in
    let both : cost_of_all (map (given_line hour) (row ∷ filter is_eligible rows)) ≡ row.effective +ℤ cost_of_all (map (given_line hour) (filter is_eligible rows)) = given_cons hour row (filter is_eligible rows) in
    rw yes (omega (arith, ints, rest, own, both, sum)))
    (λ no.
    let own : open_cost row (u n) ≡ 0 = rw no refl in
    rw no (omega (arith, ints, rest, own, sum)))

pub rows_cost_what_is_left_first : (rows : List Charge) (hour : ℕ) → pos (left_cost rows []) ≡ cost_of_all (whole_lines rows hour)
unfolding left_cost whole_lines
rows_cost_what_is_left_first rows hour = wholes_cost hour 0 rows (left_of rows []) (λ k row at. ap (left_of rows []) (let z : 0 + k ≡ k = omega arith in z) ∙ first_left rows k row at)

pub costs_add_up : (cs : List CommitmentValue) (rows : List Charge) (hour : ℕ) → cost_of_all (covered_lines cs rows hour) +ℤ cost_of_all (rest_lines rows (hour_cover cs rows hour) hour) ≡ cost_of_all (whole_lines rows hour)
unfolding covered_lines
costs_add_up cs rows hour =
    let takes = takes_cost cs rows hour [] (hour_cover cs rows hour) (takes_meet cs rows hour) in
    let rests = rests_cost_what_is_left rows (hour_cover cs rows hour) hour in
    let whole = rows_cost_what_is_left_first rows hour in
    omega (arith, ints, takes, rests, whole)
