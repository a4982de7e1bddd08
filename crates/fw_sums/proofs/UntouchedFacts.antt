-- In an hour in which no commitment has a line, the lines bring what the rows bring.
use Rattle.std.proofs.Common.{◌≡◌, ◌∙◌, ℕ, zero, suc, ◌+◌, ◌<◌, ℤ, pos, negsuc, Bool, true, false, ◌||◌, ◌&&◌, not, List, [], ◌∷◌, ◌++◌, length, map, filter, get_or, Option, Some, None, sym, ap, refl, arith, append-nil, append_assoc}
use Rattle.std.proofs.lemmas.List.{map-append, get_or_at, length-map, length-append}
use Rattle.std.proofs.lemmas.List.Sorted.{IsPermutation-filter_both, IsPermutation-map}
use Rattle.std.proofs.lemmas.Bool.Decides.{nat_tests}
use Rattle.std.proofs.Math.Nat.{mul-div_cancel}
use Rattle.std.specs.List.{AllByRecursion, enumerate_from, filter_map, flat_map, list_any}
use Rattle.std.specs.List.Sorted.{IsPermutation}
use Rattle.std.specs.Prelude.{unsigned_abs, int_lt, nat_lt, unwrap_or, ◌==◌, if◌then◌else◌, slice_index}
use Rattle.fw_charge.specs.Charge.{Charge, hour_of}
use Rattle.fw_charge.specs.Tags.{group_of}
use Rattle.fw_terms.specs.Commitment.{CommitmentValue}
use Rattle.fw_cover.specs.Applies.{applied, fits, is_in_term, is_open}
use Rattle.fw_cover.specs.Cover.{cover_of, taken_by_all, taken_of_row}
use Rattle.fw_cover.specs.Eligible.{is_eligible, is_positive}
use Rattle.fw_cover.specs.Hour.{billed_of, capacities_of, hour_cover, left_of, quantities_of, quantity_of}
use Rattle.fw_cover.specs.Order.{commitment_before, commitments_in_order, has_lower_rate, in_order, insert_by, pair_for, pairs_of, pairs_of_commitment}
use Rattle.fw_amortise.specs.LineValue.{LineValue}
use Rattle.fw_amortise.specs.Lines.{AreHourLines, given_line, given_lines, purchase_lines, purchase_lines_of, rest_line, rest_lines, rest_of, running}
use Rattle.fw_sums.specs.Costs.{costs_of, line_cost}
use Rattle.fw_sums.specs.Hours.{has_line, is_touched, row_cost}

-- ---- lists of which nothing passes

pub neither : (a b : Bool) → (a || b) ≡ false → (a ≡ false) × (b ≡ false)
neither false b h = (refl, h)
neither true b h = absurd (cc)

none_passes : {X : Type 0} (p : X → Bool) (xs : List X) → list_any p xs ≡ false → AllByRecursion (λ x. p x ≡ false) xs
none_passes p [] h = tt
none_passes p (x ∷ xs) h = let both = neither (p x) (list_any p xs) h in (both.0, none_passes p xs both.1)

filter_none : {X : Type 0} (p : X → Bool) (xs : List X) → AllByRecursion (λ x. p x ≡ false) xs → filter p xs ≡ []
filter_none p [] h = refl
filter_none p (x ∷ xs) h = rw h.0 (filter_none p xs h.1)

flat_map_none : {X A : Type 0} (f : X → List A) (xs : List X) → AllByRecursion (λ x. f x ≡ []) xs → flat_map f xs ≡ []
flat_map_none f [] h = refl
flat_map_none f (x ∷ xs) h = rw h.0 (flat_map_none f xs h.1)

filter_map_none : {X Y : Type 0} (f : X → Option Y) (xs : List X) → AllByRecursion (λ x. f x ≡ None) xs → filter_map f xs ≡ []
filter_map_none f [] h = refl
filter_map_none f (x ∷ xs) h = rw h.0 (filter_map_none f xs h.1)

weaker : {X : Type 0} (P Q : X → Type 0) → ((x : X) → P x → Q x) → (xs : List X) → AllByRecursion P xs → AllByRecursion Q xs
weaker P Q f [] h = tt
weaker P Q f (x ∷ xs) h = (f x h.0, weaker P Q f xs h.1)

each_of_all : {X : Type 0} (P : X → Type 0) → ((x : X) → P x) → (xs : List X) → AllByRecursion P xs
each_of_all P f [] = tt
each_of_all P f (x ∷ xs) = (f x, each_of_all P f xs)

-- ---- beside their places, and in another order

each_enumerated : {X : Type 0} (P : X → Type 0) (n : ℕ) (xs : List X) → AllByRecursion P xs → AllByRecursion (λ (p : ℕ × X). P p.1) (enumerate_from n xs)
each_enumerated P n [] h = tt
each_enumerated P n (x ∷ xs) h = (h.0, each_enumerated P (n + 1) xs h.1)

each_inserted : {X : Type 0} (before : X → X → Bool) (P : X → Type 0) (x : X) (ys : List X) → P x → AllByRecursion P ys → AllByRecursion P (insert_by before x ys)
each_inserted before P x [] here h = (here, tt)
each_inserted before P x (y ∷ ys) here h = let rest = each_inserted before P x ys here h.1 in
    elim (before y x) as (λ b. AllByRecursion P (if b then y ∷ insert_by before x ys else (x ∷ (y ∷ ys)))) [ true ↦ (h.0, rest) | false ↦ (here, h) ]

each_in_order : {X : Type 0} (before : X → X → Bool) (P : X → Type 0) (xs : List X) → AllByRecursion P xs → AllByRecursion P (in_order before xs)
each_in_order before P [] h = tt
each_in_order before P (x ∷ xs) h = each_inserted before P x (in_order before xs) h.0 (each_in_order before P xs h.1)

-- ---- no commitment runs

-- the commitments in their order, none of which runs
none_runs : (cs : List CommitmentValue) (hour : ℕ) → is_touched cs hour ≡ false → AllByRecursion (λ (c : ℕ × CommitmentValue). is_in_term c.1 hour ≡ false) (commitments_in_order cs)
unfolding is_touched commitments_in_order
none_runs cs hour h = each_in_order commitment_before (λ (c : ℕ × CommitmentValue). is_in_term c.1 hour ≡ false) (enumerate_from 0 cs)
    (each_enumerated (λ c. is_in_term c hour ≡ false) 0 cs
    (weaker (λ c. has_line hour c ≡ false) (λ c. is_in_term c hour ≡ false) (λ c e. (neither (is_in_term c hour) (list_any (λ p. hour_of p.at == hour) c.purchases) e).0) cs (none_passes (has_line hour) cs h)))

no_running : (cs : List CommitmentValue) (hour : ℕ) → is_touched cs hour ≡ false → running cs hour ≡ []
unfolding running
no_running cs hour h = filter_none (λ c. is_in_term c.1 hour) (commitments_in_order cs) (none_runs cs hour h)

never : (b : Bool) → (b && false) ≡ false
never true = refl
never false = refl

not_fitting : (c : CommitmentValue) (hour : ℕ) (row : Charge) → is_in_term c hour ≡ false → fits c hour row ≡ false
unfolding fits
not_fitting c hour row h = rw h refl

not_applied : (c : CommitmentValue) (hour : ℕ) (row : Charge) → is_in_term c hour ≡ false → applied c hour row ≡ None
unfolding applied
not_applied c hour row h = rw (not_fitting c hour row h, never (is_open hour row)) refl

no_pairs_of : (hour : ℕ) (rows : List Charge) (c : ℕ × CommitmentValue) → is_in_term c.1 hour ≡ false → pairs_of_commitment hour rows c ≡ []
unfolding pairs_of_commitment pair_for
no_pairs_of hour rows c h = ap (in_order has_lower_rate) (filter_map_none (pair_for hour c) (enumerate_from 0 rows)
    (each_of_all (λ row. pair_for hour c row ≡ None) (λ row. rw (not_applied c.1 hour row.1 h) refl) (enumerate_from 0 rows)))

no_pairs : (cs : List CommitmentValue) (rows : List Charge) (hour : ℕ) → is_touched cs hour ≡ false → pairs_of cs rows hour ≡ []
unfolding pairs_of
no_pairs cs rows hour h = flat_map_none (pairs_of_commitment hour rows) (commitments_in_order cs)
    (weaker (λ (c : ℕ × CommitmentValue). is_in_term c.1 hour ≡ false) (λ c. pairs_of_commitment hour rows c ≡ []) (λ c e. no_pairs_of hour rows c e) (commitments_in_order cs) (none_runs cs hour h))

no_cover : (cs : List CommitmentValue) (rows : List Charge) (hour : ℕ) → is_touched cs hour ≡ false → hour_cover cs rows hour ≡ []
unfolding hour_cover cover_of taken_by_all
no_cover cs rows hour h = ap (cover_of (billed_of rows) (quantities_of rows) (capacities_of cs)) (no_pairs cs rows hour h)

no_purchases : (cs : List CommitmentValue) (hour : ℕ) → is_touched cs hour ≡ false → purchase_lines cs hour ≡ []
unfolding is_touched purchase_lines purchase_lines_of
no_purchases cs hour h = flat_map_none (purchase_lines_of hour) cs
    (weaker (λ c. has_line hour c ≡ false) (λ c. purchase_lines_of hour c ≡ [])
    (λ c e. ap (map _) (filter_none (λ p. hour_of p.at == hour) c.purchases (none_passes (λ p. hour_of p.at == hour) c.purchases (neither (is_in_term c hour) (list_any (λ p. hour_of p.at == hour) c.purchases) e).1)))
    cs (none_passes (has_line hour) cs h))

-- ---- what is left of a row of which nothing was taken is the row

-- the parts of a test
both_true : (a b : Bool) → (a && b) ≡ true → (a ≡ true) × (b ≡ true)
both_true true b h = (refl, h)
both_true false b h = absurd (cc)

not_false : (b : Bool) → not b ≡ true → b ≡ false
not_false false h = refl
not_false true h = absurd (cc)

-- a cost that isn't below 0
cost_is : (z : ℤ) → int_lt z (pos 0) ≡ false → pos (unsigned_abs z) ≡ z
cost_is (pos n) h = refl
cost_is (negsuc n) h = absurd (cc)

some_quantity : (q : Option ℤ) → is_positive q ≡ true → 0 < unsigned_abs (unwrap_or q (pos 0))
some_quantity None h = absurd (cc)
some_quantity (Some (pos zero)) h = absurd (cc)
some_quantity (Some (pos (suc n))) h = omega arith
some_quantity (Some (negsuc n)) h = absurd (cc)

-- of a row that commitments may cover
pub record IsWhole (row : Charge) : Type 0 where
  pub quantity : 0 < quantity_of row
  pub billed : pos (unsigned_abs row.billed) ≡ row.billed
  pub effective : pos (unsigned_abs row.effective) ≡ row.effective

pub is_whole : (row : Charge) → is_eligible row ≡ true → IsWhole row
unfolding is_eligible
is_whole row h =
    let measured = (both_true _ _ h).1 in
    let costs = (both_true _ _ measured).0 in
    let billed = (both_true _ _ costs).0 in
    record {
      quantity = some_quantity row.quantity (both_true _ _ billed).0;
      billed = cost_is row.billed (not_false _ (both_true _ _ billed).1);
      effective = cost_is row.effective (not_false _ (both_true _ _ costs).1);
    }

-- the rest of the whole quantity brings what the row brings
rest_cost : (key : List ℕ) (hour : ℕ) (row : Charge) → IsWhole row → line_cost key (rest_line hour row (quantity_of row)) ≡ row_cost key row
unfolding rest_line
rest_cost key hour row whole = λ j. record {
  group = group_of key row.tags;
  billed = (ap pos (mul-div_cancel (unsigned_abs row.billed) whole.quantity) ∙ whole.billed) j;
  effective = (ap pos (mul-div_cancel (unsigned_abs row.effective) whole.quantity) ∙ whole.effective) j;
}

-- the quantity that is left of the row at a place, where nothing was taken
left_whole : (before after : List Charge) (row : Charge) → left_of (before ++ row ∷ after) [] (length before) ≡ quantity_of row
unfolding left_of taken_of_row
left_whole before after row =
    let at : slice_index (quantities_of (before ++ row ∷ after)) (length before) ≡ quantity_of row =
    ap (λ l. get_or l (length before) 0) (map-append quantity_of before (row ∷ after)) ∙ get_or_at (map quantity_of before) (quantity_of row) (map quantity_of after) 0 (length before) (length-map before quantity_of) in
    omega arith

-- so of each row
lefts_whole : (before after : List Charge) → AllByRecursion (λ (r : ℕ × Charge). left_of (before ++ after) [] r.0 ≡ quantity_of r.1) (enumerate_from (length before) after)
lefts_whole before [] = tt
lefts_whole before (row ∷ after) =
    let same : (before ++ row ∷ []) ++ after ≡ before ++ row ∷ after = append_assoc before (row ∷ []) after in
    let long : length (before ++ row ∷ []) ≡ length before + 1 = length-append before (row ∷ []) in
    (left_whole before after row, rw (same, long) at (lefts_whole (before ++ row ∷ []) after))

pub positive : (n : ℕ) → 0 < n → nat_lt 0 n ≡ true
positive n h = grind (arith, nat_tests)

-- where nothing was taken of the rows, what is left brings what the rows bring
rest_costs : (key : List ℕ) (hour : ℕ) (left : ℕ → ℕ) (n : ℕ) (rows : List Charge) → AllByRecursion (λ (r : ℕ × Charge). left r.0 ≡ quantity_of r.1) (enumerate_from n rows)
    → costs_of key (flat_map (λ (r : ℕ × Charge). rest_of hour r.1 (left r.0)) (enumerate_from n rows)) ≡ map (row_cost key) (filter is_eligible rows)
unfolding rest_of
rest_costs key hour left n [] h = refl
rest_costs key hour left n (row ∷ rows) h = by (is_eligible row) refl (rest_costs key hour left (n + 1) rows h.1)
  where
    by : (b : Bool) → is_eligible row ≡ b
        → costs_of key (flat_map (λ (r : ℕ × Charge). rest_of hour r.1 (left r.0)) (enumerate_from (n + 1) rows)) ≡ map (row_cost key) (filter is_eligible rows)
        → costs_of key (flat_map (λ (r : ℕ × Charge). rest_of hour r.1 (left r.0)) (enumerate_from n (row ∷ rows))) ≡ map (row_cost key) (filter is_eligible (row ∷ rows))
    by true e rest =
        let whole = is_whole row e in
        let some : nat_lt 0 (left n) ≡ true = ap (nat_lt 0) h.0 ∙ positive (quantity_of row) whole.quantity in
        rw (e, some) (λ j. (ap (λ q. line_cost key (rest_line hour row q)) h.0 ∙ rest_cost key hour row whole) j ∷ rest j)
    by false e rest = rw e rest

-- rows as they were given bring what they bring
given_costs : (key : List ℕ) (hour : ℕ) (rows : List Charge) → map (line_cost key) (map (given_line hour) rows) ≡ map (row_cost key) rows
unfolding given_line
given_costs key hour [] = refl
given_costs key hour (row ∷ rows) = let rest = given_costs key hour rows in ap (λ l. row_cost key row ∷ l) rest

not_not : (b : Bool) → b ≡ not (not b)
not_not true = refl
not_not false = refl

-- the lines of an hour in which no commitment has one
abbrev pub plain_lines : List Charge → ℕ → List LineValue
plain_lines rows hour = given_lines rows hour ++ rest_lines rows [] hour

pub are_plain : (cs : List CommitmentValue) (rows : List Charge) (hour : ℕ) → is_touched cs hour ≡ false → AreHourLines cs rows hour (plain_lines rows hour)
are_plain cs rows hour h = record {
  shared = [];
  are_shared = rw (no_running cs hour h) tt;
  are_lines = rw (no_purchases cs hour h, no_cover cs rows hour h) (sym (ap (λ l. l ++ rest_lines rows [] hour) (append-nil (given_lines rows hour))));
}

pub given_part : (key : List ℕ) (rows : List Charge) (hour : ℕ) → costs_of key (given_lines rows hour) ≡ map (row_cost key) (filter (λ row. not (is_eligible row)) rows)
unfolding given_lines
given_part key rows hour = given_costs key hour (filter (λ row. not (is_eligible row)) rows)

rest_part : (key : List ℕ) (rows : List Charge) (hour : ℕ) → costs_of key (rest_lines rows [] hour) ≡ map (row_cost key) (filter is_eligible rows)
unfolding rest_lines
rest_part key rows hour = rest_costs key hour (left_of rows []) 0 rows (lefts_whole [] rows)

-- they bring what the rows bring, in some order
pub plain_costs : (key : List ℕ) (rows : List Charge) (hour : ℕ) → IsPermutation (map (row_cost key) rows) (costs_of key (plain_lines rows hour))
plain_costs key rows hour =
    let moved = IsPermutation-map (row_cost key) rows (filter (λ row. not (is_eligible row)) rows ++ filter is_eligible rows)
    (IsPermutation-filter_both (λ row. not (is_eligible row)) is_eligible (λ row. not_not (is_eligible row)) rows) in
    let brought : map (row_cost key) (filter (λ row. not (is_eligible row)) rows ++ filter is_eligible rows) ≡ costs_of key (plain_lines rows hour) =
    map-append (row_cost key) (filter (λ row. not (is_eligible row)) rows) (filter is_eligible rows)
    ∙ ap (λ l. l ++ map (row_cost key) (filter is_eligible rows)) (sym (given_part key rows hour))
    ∙ ap (λ l. costs_of key (given_lines rows hour) ++ l) (sym (rest_part key rows hour))
    ∙ sym (map-append (line_cost key) (given_lines rows hour) (rest_lines rows [] hour)) in
    rw brought at moved
