-- What was covered costs more than commitments did by as much as the lines of hours would without them.
use Rattle.std.proofs.Common.{◌≡◌, ◌∙◌, ℕ, pos, ◌+ℤ◌, ◌-ℤ◌, ◌&&◌, true, false, List, [], ◌∷◌, ◌++◌, All, ap, arith, drop, filter, length, map, nat_lt, not, refl}
use Rattle.std.specs.List.{AllZip, enumerate_from, flat_map, zip}
use Rattle.std.proofs.lemmas.Int.{ints}
use Rattle.std.proofs.lemmas.List.Elements.{All-append, All-cons, All-head, All-nil, All-tail, filter-append}
use Rattle.fw_charge.specs.Charge.{Charge}
use Rattle.fw_terms.specs.Commitment.{CommitmentValue}
use Rattle.fw_cover.specs.Cover.{cover_of, taken_by_all}
use Rattle.fw_cover.specs.Eligible.{is_eligible}
use Rattle.fw_cover.specs.Hour.{hour_cover, left_of, takes_of}
use Rattle.fw_cover.specs.Order.{commitments_in_order, pairs_of}
use Rattle.fw_cover.specs.declared.taken.Taken.{Taken}
use Rattle.fw_cover.proofs.ByCommitment.{filter_every, filter_none}
use Rattle.fw_cover.proofs.Sorting.{two_ways}
use Rattle.fw_amortise.specs.Carrying.{cost_of_all}
use Rattle.fw_amortise.specs.LineValue.{LineValue}
use Rattle.fw_amortise.specs.Lines.{AreHourLines, AreLines, AreLinesAt, given_line, given_lines, purchase_line, purchase_lines, purchase_lines_of, rest_line, rest_lines, rest_of, rows_in, running, shared_lines, unused_line, used_line}
use Rattle.fw_finops.specs.Costs.{covered_in, is_amortised}
use Rattle.fw_finops.specs.Lines.{covered_lines}
use Rattle.fw_finops.proofs.LawFacts.{cost_append, cost_cons, cost_none, costs_add_up, rests_cost_what_is_left, rows_cost_what_is_left_first}

-- ---- which lines of an hour carry what a commitment costs
abbrev IsOwn : LineValue → Type 0
IsOwn line = is_amortised line ≡ true

abbrev IsOther : LineValue → Type 0
IsOther line = is_amortised line ≡ false

all_mapped : {X : Type 0} (P : LineValue → Type 0) (f : X → LineValue) (xs : List X) → ((x : X) → P (f x)) → All P (map f xs)
all_mapped P f [] each = All-nil P
all_mapped P f (x ∷ xs) each = All-cons P (f x) (map f xs) (each x) (all_mapped P f xs each)

all_flat : {X : Type 0} (P : LineValue → Type 0) (f : X → List LineValue) (xs : List X) → ((x : X) → All P (f x)) → All P (flat_map f xs)
all_flat P f [] each = All-nil P
all_flat P f (x ∷ xs) each = All-append P (f x) (flat_map f xs) (each x) (all_flat P f xs each)

purchases_other : (cs : List CommitmentValue) (hour : ℕ) → All IsOther (purchase_lines cs hour)
unfolding purchase_lines purchase_lines_of purchase_line
purchases_other cs hour = all_flat IsOther (purchase_lines_of hour) cs (λ c. all_mapped IsOther (purchase_line hour c) _ (λ p. refl))

given_other : (rows : List Charge) (hour : ℕ) → All IsOther (given_lines rows hour)
unfolding given_lines given_line
given_other rows hour = all_mapped IsOther (given_line hour) (filter (λ row. not (is_eligible row)) rows) (λ row. refl)

rest_other : (hour : ℕ) (row : Charge) (left : ℕ) → All IsOther (rest_of hour row left)
unfolding rest_of rest_line
rest_other hour row left = two_ways (is_eligible row && nat_lt 0 left)
    (λ some. rw some (All-cons IsOther (rest_line hour row left) [] refl (All-nil IsOther)))
    (λ none. rw none (All-nil IsOther))

rests_other : (rows : List Charge) (taken : List Taken) (hour : ℕ) → All IsOther (rest_lines rows taken hour)
unfolding rest_lines
rests_other rows taken hour = all_flat IsOther (λ (r : ℕ × Charge). rest_of hour r.1 (left_of rows taken r.0)) (enumerate_from 0 rows) (λ r. rest_other hour r.1 (left_of rows taken r.0))

shares_own : (hour : ℕ) (c : CommitmentValue) (rows : List Charge) (takes : List Taken) (shares : List ℕ) → All IsOwn (shared_lines hour c rows takes shares)
unfolding shared_lines used_line unused_line
shares_own hour c rows takes shares =
    All-append IsOwn (map (λ (p : Taken × ℕ). used_line hour c rows p.0 p.1) (zip takes shares)) (map (unused_line hour c) (drop (length takes) shares))
    (all_mapped IsOwn (λ (p : Taken × ℕ). used_line hour c rows p.0 p.1) (zip takes shares) (λ p. refl))
    (all_mapped IsOwn (unused_line hour c) (drop (length takes) shares) (λ s. refl))

all_shares_own : (cs : List CommitmentValue) (rows : List Charge) (hour : ℕ) (taken : List Taken) (order : List (ℕ × CommitmentValue)) (shared : List (List LineValue)) → AllZip (AreLinesAt cs rows taken hour) order shared → All IsOwn (flat_map (λ ls. ls) shared)
all_shares_own cs rows hour taken [] [] are = All-nil IsOwn
all_shares_own cs rows hour taken [] (ls ∷ shared) are = absurd are
all_shares_own cs rows hour taken (c ∷ order) [] are = absurd are
all_shares_own cs rows hour taken (c ∷ order) (ls ∷ shared) are =
    let own : All IsOwn ls = rw are.0.are_lines (shares_own hour c.1 rows (takes_of c.0 taken) are.0.shares) in
    All-append IsOwn ls (flat_map (λ ls. ls) shared) own (all_shares_own cs rows hour taken order shared are.1)

-- ---- what lines cost
nothing_costs : (lines : List LineValue) → All (λ line. line.effective ≡ pos 0) lines → cost_of_all lines ≡ pos 0
nothing_costs [] all = cost_none
nothing_costs (line ∷ lines) all =
    let P : LineValue → Type 0 = λ line. line.effective ≡ pos 0 in
    let rest = nothing_costs lines (All-tail P line lines all) in
    let first : line.effective ≡ pos 0 = All-head P line lines all in
    cost_cons line lines ∙ (λ j. first j +ℤ rest j)

purchases_cost_nothing : (cs : List CommitmentValue) (hour : ℕ) → cost_of_all (purchase_lines cs hour) ≡ pos 0
unfolding purchase_lines purchase_lines_of purchase_line
purchases_cost_nothing cs hour =
    let P : LineValue → Type 0 = λ line. line.effective ≡ pos 0 in
    nothing_costs (flat_map (purchase_lines_of hour) cs) (all_flat P (purchase_lines_of hour) cs (λ c. all_mapped P (purchase_line hour c) _ (λ p. refl)))

others_none : (lines : List LineValue) → All IsOther lines → cost_of_all (filter is_amortised lines) ≡ pos 0
others_none lines other = ap cost_of_all (filter_none is_amortised lines other) ∙ cost_none

owns_all : (lines : List LineValue) → All IsOwn lines → cost_of_all (filter is_amortised lines) ≡ cost_of_all lines
owns_all lines own = ap cost_of_all (filter_every is_amortised lines own)

amortised_append : (xs ys : List LineValue) → cost_of_all (filter is_amortised (xs ++ ys)) ≡ cost_of_all (filter is_amortised xs) +ℤ cost_of_all (filter is_amortised ys)
amortised_append xs ys = ap cost_of_all (filter-append is_amortised xs ys) ∙ cost_append (filter is_amortised xs) (filter is_amortised ys)

-- ---- an hour with commitments
record HasParts (cs : List CommitmentValue) (rows : List Charge) (hour : ℕ) (lines : List LineValue) : Type 0 where
  whole : cost_of_all lines ≡ cost_of_all (given_lines rows hour) +ℤ (cost_of_all (filter is_amortised lines) +ℤ cost_of_all (rest_lines rows (hour_cover cs rows hour) hour))

has_parts : (cs : List CommitmentValue) (rows : List Charge) (hour : ℕ) (lines : List LineValue) → AreHourLines cs rows hour lines → HasParts cs rows hour lines
has_parts cs rows hour lines are =
    let bought : List LineValue = purchase_lines cs hour in
    let given : List LineValue = given_lines rows hour in
    let shared : List LineValue = flat_map (λ ls. ls) are.shared in
    let rests : List LineValue = rest_lines rows (hour_cover cs rows hour) hour in
    let own = owns_all shared (all_shares_own cs rows hour (hour_cover cs rows hour) (running cs hour) are.shared are.are_shared) in
    let a1 = cost_append (bought ++ given ++ shared) rests in
    let a2 = cost_append (bought ++ given) shared in
    let a3 = cost_append bought given in
    let b1 = amortised_append (bought ++ given ++ shared) rests in
    let b2 = amortised_append (bought ++ given) shared in
    let b3 = amortised_append bought given in
    let p = purchases_cost_nothing cs hour in
    let n1 = others_none bought (purchases_other cs hour) in
    let n2 = others_none given (given_other rows hour) in
    let n3 = others_none rests (rests_other rows (hour_cover cs rows hour) hour) in
    record { whole = rw are.are_lines (omega (arith, ints, own, a1, a2, a3, b1, b2, b3, p, n1, n2, n3)) }

-- ---- an hour without commitments
none_taken : (rows : List Charge) (hour : ℕ) → hour_cover [] rows hour ≡ []
unfolding hour_cover cover_of taken_by_all pairs_of commitments_in_order
none_taken rows hour = refl

none_shared : (rows : List Charge) (hour : ℕ) (lines : List LineValue) → AreHourLines [] rows hour lines → cost_of_all (filter is_amortised lines) ≡ pos 0
unfolding running commitments_in_order purchase_lines
none_shared rows hour lines are = by are.shared are.are_shared are.are_lines
  where
    by : (shared : List (List LineValue)) → AllZip (AreLinesAt [] rows (hour_cover [] rows hour) hour) [] shared → lines ≡ [] ++ given_lines rows hour ++ flat_map (λ ls. ls) shared ++ rest_lines rows (hour_cover [] rows hour) hour
        → cost_of_all (filter is_amortised lines) ≡ pos 0
    by [] none is =
        let n1 = others_none [] (All-nil IsOther) in
        let n2 = others_none (given_lines rows hour) (given_other rows hour) in
        let n3 = others_none (rest_lines rows (hour_cover [] rows hour) hour) (rests_other rows (hour_cover [] rows hour) hour) in
        let b1 = amortised_append (given_lines rows hour ++ []) (rest_lines rows (hour_cover [] rows hour) hour) in
        let b2 = amortised_append (given_lines rows hour) [] in
        rw is (omega (arith, ints, n1, n2, n3, b1, b2))
    by (ls ∷ shared) none is = absurd none

hour_saves : (cs : List CommitmentValue) (rows : List Charge) (hour : ℕ) (lines plain : List LineValue) → AreHourLines cs rows hour lines → AreHourLines [] rows hour plain
    → cost_of_all (covered_lines cs rows hour) +ℤ cost_of_all lines ≡ cost_of_all plain +ℤ cost_of_all (filter is_amortised lines)
hour_saves cs rows hour lines plain are without =
    let with_them = (has_parts cs rows hour lines are).whole in
    let alone = (has_parts [] rows hour plain without).whole in
    let none = none_shared rows hour plain without in
    let whole = costs_add_up cs rows hour in
    let left = rests_cost_what_is_left rows [] hour in
    let first = rows_cost_what_is_left_first rows hour in
    let taken : cost_of_all (rest_lines rows (hour_cover [] rows hour) hour) ≡ cost_of_all (rest_lines rows [] hour) = ap (λ ts. cost_of_all (rest_lines rows ts hour)) (none_taken rows hour) in
    omega (arith, ints, with_them, alone, none, whole, left, first, taken)

-- ---- hours in turn
together : (cs : List CommitmentValue) (rows : List Charge) (hours : List ℕ) (hourly plain : List (List LineValue)) → AllZip (AreLines cs rows) hours hourly → AllZip (AreLines [] rows) hours plain
    → cost_of_all (covered_in cs rows hours) +ℤ cost_of_all (flat_map (λ ls. ls) hourly) ≡ cost_of_all (flat_map (λ ls. ls) plain) +ℤ cost_of_all (filter is_amortised (flat_map (λ ls. ls) hourly))
unfolding covered_in AreLines
together cs rows [] [] [] are without = rw cost_none (omega (arith, ints))
together cs rows [] [] (p ∷ plain) are without = absurd without
together cs rows [] (ls ∷ hourly) plain are without = absurd are
together cs rows (hour ∷ hours) [] plain are without = absurd are
together cs rows (hour ∷ hours) (ls ∷ hourly) [] are without = absurd without
together cs rows (hour ∷ hours) (ls ∷ hourly) (p ∷ plain) are without =
    let rest = together cs rows hours hourly plain are.1 without.1 in
    let here = hour_saves cs (rows_in hour rows) hour ls p are.0 without.0 in
    let a = cost_append (covered_lines cs (rows_in hour rows) hour) (flat_map (λ h. covered_lines cs (rows_in h rows) h) hours) in
    let b = cost_append ls (flat_map (λ ls. ls) hourly) in
    let d = cost_append p (flat_map (λ ls. ls) plain) in
    let e = amortised_append ls (flat_map (λ ls. ls) hourly) in
    omega (arith, ints, rest, here, a, b, d, e)

pub hours_save : (cs : List CommitmentValue) (rows : List Charge) (hours : List ℕ) (hourly plain : List (List LineValue)) → AllZip (AreLines cs rows) hours hourly → AllZip (AreLines [] rows) hours plain
    → cost_of_all (covered_in cs rows hours) -ℤ cost_of_all (filter is_amortised (flat_map (λ ls. ls) hourly)) ≡ cost_of_all (flat_map (λ ls. ls) plain) -ℤ cost_of_all (flat_map (λ ls. ls) hourly)
hours_save cs rows hours hourly plain are without = let sums = together cs rows hours hourly plain are without in omega (arith, ints, sums)
