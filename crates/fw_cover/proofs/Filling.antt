-- What is left of a row and of a commitment that applies to it: nothing of one of the two or, at a rate, what is out of reach.
use Rattle.std.proofs.Common.{◌≡◌, ◌∙◌, ℕ, ◌+◌, ◌-◌, ◌*◌, ◌/◌, ◌<◌, ◌≤◌, ◌==◌, ◌⊎◌, inl, inr, ⊎_elim, Bool, true, false, cond, map, nat_le, List, [], ◌∷◌, ◌++◌, length, get_or, All, Option, Some, None, IfSome, refl, sym, ap, subst, arith, append_assoc, zero-add}
use Rattle.std.specs.Prelude.{slice_get, slice_index, unsigned_abs}
use Rattle.std.specs.Option.{IsSome}
use Rattle.std.specs.List.{cons_option, enumerate_from, filter_map, flat_map}
use Rattle.std.proofs.Math.Nat.{div-mul-le_self, div-zero, le_trans, lt-div-mul-add, lt_of_mul-lt-mul_left, mul-le-mul_left, mul-le-mul_right, mul-lt-mul_of_pos_right, mul_assoc, mul_comm, mul_right_comm, zero-div, zero-mul}
use Rattle.std.proofs.lemmas.Nat.{le-div}
use Rattle.std.proofs.lemmas.Bool.{cases_lt, eq-eqb, eqb-true, eqb-false}
use Rattle.std.proofs.lemmas.Bool.Decides.{nat_tests}
use Rattle.std.proofs.lemmas.List.{get_or-map}
use Rattle.std.proofs.lemmas.List.FromFn.{length-enumerate_from, get_or-enumerate_from}
use Rattle.std.proofs.lemmas.List.Sums.{sum_by-append, sum_by_push}
use Rattle.std.proofs.lemmas.List.Elements.{All-cons, All-head, All-map, All-nil, All-tail}
use Rattle.std.proofs.lemmas.Option.{get_or_from_slice_get, slice_get_within}
use Rattle.fw_charge.specs.Charge.{Charge}
use Rattle.fw_charge.specs.declared.discount.DiscountKind.TheVariants as kind
use Rattle.fw_terms.specs.Commitment.{CommitmentValue, TermsValue, kind_of}
use Rattle.fw_terms.specs.Commitment.TermsValue.{usage, spend}
use Rattle.fw_cover.specs.Applies.{applied, listings}
use Rattle.fw_cover.specs.Cover.{cover_of, taken_by, taken_of_row, used_of}
use Rattle.fw_cover.specs.Hour.{billed_of, capacities_of, hour_cover, left_of, quantities_of, quantity_of, unused_of}
use Rattle.fw_cover.specs.Meeting.{Meets}
use Rattle.fw_cover.specs.Order.{commitment_before, commitments_in_order, has_lower_rate, in_order, insert_by, pair_for, pairs_of, pairs_of_commitment}
use Rattle.fw_cover.specs.Part.{IsOutOfReach, ceil_div, in_proportion, need_of, part_of, spend_part_for}
use Rattle.fw_cover.specs.declared.pair.Pair.{Pair}
use Rattle.fw_cover.specs.declared.taken.Taken.{Taken}
use Rattle.fw_cover.proofs.Left.{IsNothing, taken_kept, used_kept}
use Rattle.fw_cover.proofs.Sorting.{two_ways}
use Rattle.fw_cover.proofs.Taking.{all_taken, taken_after}
use Rattle.fw_cover.proofs.Within.{applied_rate}

-- ---- needs and prices
ceil_none : (a : ℕ) → ceil_div a 1000000 ≡ 0 → a ≡ 0
ceil_none a h = omega arith

none_ceil : (a : ℕ) → a ≡ 0 → ceil_div a 1000000 ≡ 0
none_ceil a h = rw h refl

-- a number below a quotient rounded up is below the quotient
below_ceil : (a n : ℕ) → n < ceil_div a 1000000 → n * 1000000 < a
below_ceil a n h = omega arith

cost_falls : (b q u less : ℕ) → less ≤ u → in_proportion b q less ≤ in_proportion b q u
cost_falls b q u less h = ⊎_elim
    (λ (none : q < 1). let e : q ≡ 0 = omega arith in rw (e, div-zero (b * less), div-zero (b * u)) (omega arith))
    (λ some. le-div (b * less / q) (b * u) q some (le_trans (div-mul-le_self (b * less) q) (mul-le-mul_left b h)))
    (cases_lt q 1)

need_falls : (b q ppm u less : ℕ) → less ≤ u → need_of b q ppm u ≡ 0 → need_of b q ppm less ≡ 0
need_falls b q ppm u less h none =
    let cost : in_proportion b q u * ppm ≡ 0 = ceil_none (in_proportion b q u * ppm) none in
    let fewer : in_proportion b q less * ppm ≤ in_proportion b q u * ppm = mul-le-mul_right ppm (cost_falls b q u less h) in
    none_ceil (in_proportion b q less * ppm) (omega (arith, cost, fewer))

need_nothing : (b q ppm : ℕ) → need_of b q ppm 0 ≡ 0
need_nothing b q ppm =
    let none : b * 0 ≡ 0 = omega arith in
    none_ceil (in_proportion b q 0 * ppm) (ap (λ c. c / q * ppm) none ∙ (ap (λ c. c * ppm) (zero-div q) ∙ zero-mul ppm))

-- where less than a nano of what is left can be had, one nano costs more than there is
dear : (b q ppm u left : ℕ) → 0 < q → 0 < u → u * left < need_of b q ppm u → left * (q * 1000000) < b * ppm
dear b q ppm u left some more h =
    let c : ℕ = in_proportion b q u in
    let needed : u * left * 1000000 < c * ppm = below_ceil (c * ppm) (u * left) h in
    let scaled : u * left * 1000000 * q < c * ppm * q = mul-lt-mul_of_pos_right needed some in
    let rounded : c * q * ppm ≤ b * u * ppm = mul-le-mul_right ppm (div-mul-le_self (b * u) q) in
    let first : u * (left * (q * 1000000)) ≡ u * left * 1000000 * q =
    sym (mul_assoc u left (q * 1000000)) ∙ (ap (λ x. u * left * x) (mul_comm q 1000000) ∙ sym (mul_assoc (u * left) 1000000 q)) in
    let second : c * ppm * q ≡ c * q * ppm = mul_right_comm c ppm q in
    let third : b * u * ppm ≡ u * (b * ppm) = ap (λ x. x * ppm) (mul_comm b u) ∙ mul_assoc u b ppm in
    lt_of_mul-lt-mul_left u (omega (arith, scaled, rounded, first, second, third))

-- ---- after its turn a pair is done: nothing is left of its row or of its commitment or, at a rate, what is left is out of reach
abbrev IsRest : Option ℕ → ℕ → ℕ → ℕ → ℕ → Type 0
IsRest None b q u left = ⊥
IsRest (Some ppm) b q u left = IsOutOfReach b q ppm u left

abbrev IsDone : Option ℕ → ℕ → ℕ → ℕ → ℕ → Type 0
IsDone rate b q u left = (u ≡ 0) ⊎ ((left ≡ 0) ⊎ IsRest rate b q u left)

rest_falls : (rate : Option ℕ) (b q u left less lower : ℕ) → less ≤ u → lower ≤ left → IsRest rate b q u left → IsRest rate b q less lower
rest_falls None b q u left less lower row capacity h = h
rest_falls (Some ppm) b q u left less lower row capacity h = ⊎_elim
    (λ none. inl (need_falls b q ppm u less row none))
    (λ more. inr (let scaled : lower * (q * 1000000) ≤ left * (q * 1000000) = mul-le-mul_right (q * 1000000) capacity in omega (arith, more, scaled)))
    h

-- and it stays so, since less and less is left
done_falls : (rate : Option ℕ) (b q u left less lower : ℕ) → less ≤ u → lower ≤ left → IsDone rate b q u left → IsDone rate b q less lower
done_falls rate b q u left less lower row capacity h = ⊎_elim
    (λ none. inl (omega (arith, none, row)))
    (λ rest. inr (⊎_elim (λ none. inl (omega (arith, none, capacity))) (λ far. inr (rest_falls rate b q u left less lower row capacity far)) rest))
    h

spend_done : (b q ppm u left need : ℕ) → need ≡ need_of b q ppm u → u ≤ q → IsDone (Some ppm) b q (u - (spend_part_for need u left).quantity) (left - (spend_part_for need u left).weight)
spend_done b q ppm u left need e within = two_ways (need == 0)
    (λ none. rw none (untaken (inr (inr (inl (sym e ∙ eqb-true need 0 none))))))
    (λ some. two_ways (nat_le need left)
    (λ fits. rw (some, fits) (inl (omega arith)))
    (λ over. two_ways (u * left / need == 0)
    (λ nothing. rw (some, over, nothing) (untaken (⊎_elim
    (λ none. inl (omega (arith, none)))
    (λ more. inr (inr (inr (dear b q ppm u left (omega (arith, more, within)) more (short some nothing)))))
    (cases_lt u 1))))
    (λ part. rw (some, over, part) (inr (inl (omega arith))))))
  where
    untaken : IsDone (Some ppm) b q u left → IsDone (Some ppm) b q (u - 0) (left - 0)
    untaken h = done_falls (Some ppm) b q u left (u - 0) (left - 0) (omega arith) (omega arith) h

    short : (need == 0) ≡ false → (u * left / need == 0) ≡ true → u * left < need_of b q ppm u
    short some nothing =
        let positive : 0 < need = grind (arith, nat_tests) in
        let none : u * left / need ≡ 0 = eqb-true (u * left / need) 0 nothing in
        let below : u * left < u * left / need * need + need = lt-div-mul-add positive in
        let few = rw (none, zero-mul need) at below in
        subst (λ (n : ℕ). u * left < n) e (omega (arith, few))

part_done : (rate : Option ℕ) (b q u left : ℕ) → u ≤ q → IsDone rate b q (u - (part_of rate b q u left).quantity) (left - (part_of rate b q u left).weight)
part_done None b q u left within = ⊎_elim (λ less. inl (omega (arith, less))) (λ more. inr (inl (omega (arith, more)))) (cases_lt u left)
part_done (Some ppm) b q u left within = spend_done b q ppm u left (need_of b q ppm u) refl within

-- what takes nothing of a row uses nothing of the commitment
spend_nothing : (b q ppm u left need : ℕ) → need ≡ need_of b q ppm u → (spend_part_for need u left).quantity ≡ 0 → (spend_part_for need u left).weight ≡ 0
spend_nothing b q ppm u left need e = two_ways (need == 0)
    (λ none. rw none (λ h. refl))
    (λ some. two_ways (nat_le need left)
    (λ fits. rw (some, fits) (λ h. e ∙ (ap (need_of b q ppm) h ∙ need_nothing b q ppm)))
    (λ over. two_ways (u * left / need == 0)
    (λ nothing. rw (some, over, nothing) (λ h. refl))
    (λ part. rw (some, over, part) (λ h. absurd (eqb-false (u * left / need) 0 part h)))))

part_nothing : (rate : Option ℕ) (b q u left : ℕ) → (part_of rate b q u left).quantity ≡ 0 → (part_of rate b q u left).weight ≡ 0
part_nothing None b q u left h = h
part_nothing (Some ppm) b q u left h = spend_nothing b q ppm u left (need_of b q ppm u) refl h

-- ---- all pairs, one after another
abbrev IsDoneBy : List ℕ → List ℕ → List ℕ → List Taken → Pair → Type 0
IsDoneBy bs qs ks all p =
    IsDone p.rate (slice_index bs p.row) (slice_index qs p.row) (slice_index qs p.row - taken_of_row p.row all) (slice_index ks p.commitment - used_of p.commitment all)

row_rises : (done rest : List Taken) (t : Taken) → taken_of_row t.row done + t.quantity ≤ taken_of_row t.row ((done ++ t ∷ []) ++ rest)
unfolding taken_of_row
row_rises done rest t = let f : Taken → ℕ = λ x. cond (x.row == t.row) x.quantity 0 in
    let own : f t ≡ t.quantity = rw (eq-eqb t.row t.row refl) refl in
    omega (arith, own, sum_by-append f (done ++ t ∷ []) rest, sum_by_push f done t)

commitment_rises : (done rest : List Taken) (t : Taken) → used_of t.commitment done + t.weight ≤ used_of t.commitment ((done ++ t ∷ []) ++ rest)
unfolding used_of
commitment_rises done rest t = let f : Taken → ℕ = λ x. cond (x.commitment == t.commitment) x.weight 0 in
    let own : f t ≡ t.weight = rw (eq-eqb t.commitment t.commitment refl) refl in
    omega (arith, own, sum_by-append f (done ++ t ∷ []) rest, sum_by_push f done t)

first_done : (bs qs ks : List ℕ) (done rest : List Taken) (p : Pair) → IsDoneBy bs qs ks ((done ++ taken_by bs qs ks done p ∷ []) ++ rest) p
unfolding taken_by
first_done bs qs ks done rest p =
    let b : ℕ = slice_index bs p.row in
    let q : ℕ = slice_index qs p.row in
    let u : ℕ = q - taken_of_row p.row done in
    let left : ℕ = slice_index ks p.commitment - used_of p.commitment done in
    let row = row_rises done rest (taken_by bs qs ks done p) in
    let capacity = commitment_rises done rest (taken_by bs qs ks done p) in
    done_falls p.rate b q (u - (part_of p.rate b q u left).quantity) (left - (part_of p.rate b q u left).weight) _ _
    (omega (arith, row)) (omega (arith, capacity)) (part_done p.rate b q u left (omega arith))

all_done : (bs qs ks : List ℕ) (done : List Taken) (ps : List Pair) → All (IsDoneBy bs qs ks (done ++ taken_after bs qs ks done ps)) ps
all_done bs qs ks done [] = All-nil (IsDoneBy bs qs ks (done ++ []))
all_done bs qs ks done (p ∷ ps) =
    let t : Taken = taken_by bs qs ks done p in
    let rest : List Taken = taken_after bs qs ks (done ++ t ∷ []) ps in
    subst (λ all. All (IsDoneBy bs qs ks all) (p ∷ ps)) (append_assoc done (t ∷ []) rest)
    (All-cons (IsDoneBy bs qs ks ((done ++ t ∷ []) ++ rest)) p ps (first_done bs qs ks done rest p) (all_done bs qs ks (done ++ t ∷ []) ps))

all_nothing : (bs qs ks : List ℕ) (done : List Taken) (ps : List Pair) → All IsNothing (taken_after bs qs ks done ps)
unfolding taken_by
all_nothing bs qs ks done [] = All-nil IsNothing
all_nothing bs qs ks done (p ∷ ps) = let t : Taken = taken_by bs qs ks done p in
    All-cons IsNothing t (taken_after bs qs ks (done ++ t ∷ []) ps)
    (part_nothing p.rate (slice_index bs p.row) (slice_index qs p.row) (slice_index qs p.row - taken_of_row p.row done) (slice_index ks p.commitment - used_of p.commitment done))
    (all_nothing bs qs ks (done ++ t ∷ []) ps)

pairs_done : (cs : List CommitmentValue) (rows : List Charge) (hour : ℕ) → All (IsDoneBy (billed_of rows) (quantities_of rows) (capacities_of cs) (hour_cover cs rows hour)) (pairs_of cs rows hour)
unfolding hour_cover cover_of
pairs_done cs rows hour k d lt =
    let bs : List ℕ = billed_of rows in
    let qs : List ℕ = quantities_of rows in
    let ks : List ℕ = capacities_of cs in
    let ps : List Pair = pairs_of cs rows hour in
    let p : Pair = get_or ps k d in
    let ts : List Taken = taken_after bs qs ks [] ps in
    rw (all_taken bs qs ks ps, taken_kept p.row ts, used_kept p.commitment ts (all_nothing bs qs ks [] ps)) (all_done bs qs ks [] ps k d lt)

-- ---- what holds of all that is made of a list holds of what is made of each element
left_all : {X : Type 0} (P : X → Type 0) (xs ys : List X) → All P (xs ++ ys) → All P xs
left_all P [] ys all = All-nil P
left_all P (x ∷ xs) ys all = All-cons P x xs (All-head P x (xs ++ ys) all) (left_all P xs ys (All-tail P x (xs ++ ys) all))

right_all : {X : Type 0} (P : X → Type 0) (xs ys : List X) → All P (xs ++ ys) → All P ys
right_all P [] ys all = all
right_all P (x ∷ xs) ys all = right_all P xs ys (All-tail P x (xs ++ ys) all)

pub of_flat_map : {X Y : Type 0} (P : Y → Type 0) (f : X → List Y) (xs : List X) → All P (flat_map f xs) → All (λ x. All P (f x)) xs
of_flat_map P f [] all = All-nil (λ x. All P (f x))
of_flat_map P f (x ∷ xs) all = All-cons (λ x. All P (f x)) x xs (left_all P (f x) (flat_map f xs) all) (of_flat_map P f xs (right_all P (f x) (flat_map f xs) all))

of_option : {Y : Type 0} (P : Y → Type 0) (o : Option Y) (ys : List Y) → All P (cons_option o ys) → ((y : Y) → o ≡ Some y → P y) × All P ys
of_option P None ys all = (λ y e. absurd (cc), all)
of_option P (Some z) ys all = (λ y e. let same : z ≡ y = cc in subst P same (All-head P z ys all), All-tail P z ys all)

of_filter_map : {X Y : Type 0} (P : Y → Type 0) (h : X → Option Y) (xs : List X) → All P (filter_map h xs) → All (λ x. (y : Y) → h x ≡ Some y → P y) xs
of_filter_map {X} {Y} P h [] all = All-nil (λ (x : X). (y : Y) → h x ≡ Some y → P y)
of_filter_map {X} {Y} P h (x ∷ xs) all = let both = of_option P (h x) (filter_map h xs) all in
    All-cons (λ (x : X). (y : Y) → h x ≡ Some y → P y) x xs both.0 (of_filter_map P h xs both.1)

of_insert : {X : Type 0} (before : X → X → Bool) (P : X → Type 0) (x : X) (ys : List X) → All P (insert_by before x ys) → P x × All P ys
of_insert before P x [] all = (All-head P x [] all, All-nil P)
of_insert before P x (y ∷ ys) all = two_ways (before y x)
    (λ holds. let all' : All P (y ∷ insert_by before x ys) = rw holds at all in
    let both = of_insert before P x ys (All-tail P y (insert_by before x ys) all') in (both.0, All-cons P y ys (All-head P y (insert_by before x ys) all') both.1))
    (λ fails. let all' : All P (x ∷ (y ∷ ys)) = rw fails at all in (All-head P x (y ∷ ys) all', All-tail P x (y ∷ ys) all'))

pub of_in_order : {X : Type 0} (before : X → X → Bool) (P : X → Type 0) (xs : List X) → All P (in_order before xs) → All P xs
of_in_order before P [] all = all
of_in_order before P (x ∷ xs) all = let both = of_insert before P x (in_order before xs) all in All-cons P x xs both.0 (of_in_order before P xs both.1)

pub element_at : {X : Type 0} (P : ℕ × X → Type 0) (xs : List X) (k : ℕ) (x : X) → All P (enumerate_from 0 xs) → slice_get xs k ≡ Some x → P (k, x)
element_at P xs k x all there =
    let lt : k < length xs = slice_get_within xs k x there in
    let here : get_or (enumerate_from 0 xs) k (k, x) ≡ (k, x) = get_or-enumerate_from 0 xs k (k, x) lt ∙ (rw (zero-add k, get_or_from_slice_get xs k x x there) refl) in
    subst P here (all k (k, x) (omega (arith, lt, length-enumerate_from 0 xs)))

-- ---- what a commitment and a row that it applies to have left
pub number_at : (f : Charge → ℕ) (rows : List Charge) (r : ℕ) (row : Charge) → slice_get rows r ≡ Some row → slice_index (map f rows) r ≡ f row
number_at f rows r row there = get_or-map f rows r row 0 (slice_get_within rows r row there) ∙ ap f (get_or_from_slice_get rows r row row there)

met_done : (cs : List CommitmentValue) (rows : List Charge) (hour place r : ℕ) (c : CommitmentValue) (row : Charge) (rate : Option ℕ) → slice_get cs place ≡ Some c → slice_get rows r ≡ Some row → applied c hour row ≡ Some rate
    → IsDone rate (unsigned_abs row.billed) (quantity_of row) (left_of rows (hour_cover cs rows hour) r) (unused_of cs (hour_cover cs rows hour) place)
unfolding pairs_of pairs_of_commitment commitments_in_order pair_for left_of unused_of
met_done cs rows hour place r c row rate at_place at_row by =
    let P : Pair → Type 0 = IsDoneBy (billed_of rows) (quantities_of rows) (capacities_of cs) (hour_cover cs rows hour) in
    let F : ℕ × CommitmentValue → Type 0 = λ c. All P (pairs_of_commitment hour rows c) in
    let each : All F (commitments_in_order cs) = of_flat_map P (pairs_of_commitment hour rows) (commitments_in_order cs) (pairs_done cs rows hour) in
    let own : All P (pairs_of_commitment hour rows (place, c)) = element_at F cs place c (of_in_order commitment_before F (enumerate_from 0 cs) each) at_place in
    let G : ℕ × Charge → Type 0 = λ row. (p : Pair) → pair_for hour (place, c) row ≡ Some p → P p in
    let met : All G (enumerate_from 0 rows) = of_filter_map P (pair_for hour (place, c)) (enumerate_from 0 rows) (of_in_order has_lower_rate P (filter_map (pair_for hour (place, c)) (enumerate_from 0 rows)) own) in
    let p : Pair = record { commitment = place; row = r; rate = rate } in
    let done : P p = element_at G rows r row met at_row p (rw by refl) in
    let u : ℕ = left_of rows (hour_cover cs rows hour) r in
    let left : ℕ = unused_of cs (hour_cover cs rows hour) place in
    subst (λ (q : ℕ). IsDone rate (unsigned_abs row.billed) q u left) (number_at quantity_of rows r row at_row)
    (subst (λ (b : ℕ). IsDone rate b (slice_index (quantities_of rows) r) u left) (number_at (λ row. unsigned_abs row.billed) rows r row at_row) done)

rates_of_usage : (terms : TermsValue) → kind_of terms ≡ kind.Usage → All (λ l. l.rate ≡ None) (listings terms)
rates_of_usage (usage unit skus) h = All-map (λ l. l.rate ≡ None) (λ sku. record { sku = sku; rate = None }) skus (λ k d lt. refl)
rates_of_usage (spend rates) h = absurd (cc)

left_of_full : (rate : Option ℕ) (b q u left : ℕ) → rate ≡ None → IsDone rate b q u left → 0 < left → u ≡ 0
left_of_full rate b q u left none done some = ⊎_elim
    (λ e. e)
    (λ rest. ⊎_elim (λ e. absurd (omega (arith, e, some))) (λ never. absurd never) rest)
    (subst (λ r. IsDone r b q u left) none done)

full_row : (cs : List CommitmentValue) (rows : List Charge) (hour place r : ℕ) (c : CommitmentValue) (row : Charge) (o : Option (Option ℕ)) → slice_get cs place ≡ Some c → slice_get rows r ≡ Some row → applied c hour row ≡ o → IsSome o → IfSome o (λ rate. rate ≡ None)
    → 0 < unused_of cs (hour_cover cs rows hour) place → left_of rows (hour_cover cs rows hour) r ≡ 0
full_row cs rows hour place r c row None at_place at_row by some none unused = absurd (cc)
full_row cs rows hour place r c row (Some rate) at_place at_row by some none unused =
    left_of_full rate (unsigned_abs row.billed) (quantity_of row) _ _ none (met_done cs rows hour place r c row rate at_place at_row by) unused

-- where some capacity of a commitment to a quantity is unused, nothing is left of a row that it applies to
pub row_used_up : (cs : List CommitmentValue) (rows : List Charge) (hour place row : ℕ) (meets : Meets cs rows hour place row) → kind_of meets.commitment.terms ≡ kind.Usage → 0 < unused_of cs (hour_cover cs rows hour) place
    → left_of rows (hour_cover cs rows hour) row ≡ 0
row_used_up cs rows hour place row meets is unused =
    full_row cs rows hour place row meets.commitment meets.charge (applied meets.commitment hour meets.charge) meets.at_place meets.at_row refl meets.applies
    (applied_rate (λ rate. rate ≡ None) meets.commitment hour meets.charge (rates_of_usage meets.commitment.terms is)) unused

-- at a rate, what is left of both is out of reach
pub row_out_of_reach : (cs : List CommitmentValue) (rows : List Charge) (hour place row : ℕ) (meets : Meets cs rows hour place row) (rate : ℕ) → applied meets.commitment hour meets.charge ≡ Some (Some rate)
    → 0 < unused_of cs (hour_cover cs rows hour) place → 0 < left_of rows (hour_cover cs rows hour) row
    → IsOutOfReach (unsigned_abs meets.charge.billed) (quantity_of meets.charge) rate (left_of rows (hour_cover cs rows hour) row) (unused_of cs (hour_cover cs rows hour) place)
row_out_of_reach cs rows hour place row meets rate by unused left = ⊎_elim
    (λ e. absurd (omega (arith, e, left)))
    (λ rest. ⊎_elim (λ e. absurd (omega (arith, e, unused))) (λ far. far) rest)
    (met_done cs rows hour place row meets.commitment meets.charge (Some rate) meets.at_place meets.at_row by)
