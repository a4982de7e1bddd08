-- The lines beside a commitment say together what rows could have used of it.
use Rattle.std.proofs.Common.{◌≡◌, ◌∙◌, ℕ, ◌+◌, pos, ◌+ℤ◌, ◌&&◌, true, false, List, [], ◌∷◌, ◌++◌, Option, None, Some, ap, arith, filter, is_none, is_some, refl, sum_by, sym}
use Rattle.std.specs.Prelude.{slice_get}
use Rattle.std.specs.List.{flat_map, list_any}
use Rattle.std.specs.Option.{option_map_or}
use Rattle.std.specs.Str.{bytes_eq}
use Rattle.std.proofs.lemmas.Bool.{and_parts}
use Rattle.std.proofs.lemmas.Int.{ints}
use Rattle.std.proofs.lemmas.List.Elements.{filter-append}
use Rattle.std.proofs.lemmas.List.Sums.{sum_by-cons}
use Rattle.fw_charge.specs.Charge.{Charge, DiscountText}
use Rattle.fw_terms.specs.Commitment.{CommitmentValue}
use Rattle.fw_cover.specs.Applies.{applied}
use Rattle.fw_cover.specs.Eligible.{is_eligible, is_measured, is_open_use}
use Rattle.fw_cover.specs.Hour.{hour_cover, left_of}
use Rattle.fw_cover.specs.declared.taken.Taken.{Taken}
use Rattle.fw_cover.proofs.Sorting.{two_ways}
use Rattle.fw_amortise.specs.LineValue.{LineValue}
use Rattle.fw_amortise.specs.Lines.{given_line}
use Rattle.fw_finops.specs.Lines.{applies, coverable_line, coverable_of, covered_after, covered_by, covered_line, covered_lines, counts, eligible_line, eligible_of, is_beside, most_of, open_lines, open_lines_of, price_lines, unit_line, unit_lines_of}
use Rattle.fw_finops.specs.Listed.{billed_of_all}
use Rattle.fw_finops.specs.Usable.{usable, usable_of, whole_at}
use Rattle.fw_finops.proofs.PartFacts.{open_eligible}
use Rattle.fw_finops.proofs.PricedFacts.{billed_cons}

-- ---- sums of amounts
billed_none : billed_of_all [] ≡ pos 0
unfolding billed_of_all
billed_none = refl

billed_append : (xs ys : List LineValue) → billed_of_all (xs ++ ys) ≡ billed_of_all xs +ℤ billed_of_all ys
billed_append [] ys = let none = billed_none in omega (arith, ints, none)
billed_append (x ∷ xs) ys =
    let rest = billed_append xs ys in
    let a = billed_cons x (xs ++ ys) in
    let b = billed_cons x xs in
    omega (arith, ints, rest, a, b)

beside_append : (id : List ℕ) (xs ys : List LineValue) → billed_of_all (filter (is_beside id) (xs ++ ys)) ≡ billed_of_all (filter (is_beside id) xs) +ℤ billed_of_all (filter (is_beside id) ys)
beside_append id xs ys = ap billed_of_all (filter-append (is_beside id) xs ys) ∙ billed_append (filter (is_beside id) xs) (filter (is_beside id) ys)

-- ---- what was taken is beside none
taken_by_none : (id : List ℕ) (hour : ℕ) (c : Option CommitmentValue) (row : Option Charge) (t : Taken) (before : ℕ) → filter (is_beside id) (covered_by hour c row t before) ≡ []
unfolding covered_line
taken_by_none id hour None row t before = refl
taken_by_none id hour (Some c) None t before = refl
taken_by_none id hour (Some c) (Some row) t before = two_ways (bytes_eq c.id id) (λ same. rw same refl) (λ other. rw other refl)

taken_beside : (id : List ℕ) (cs : List CommitmentValue) (rows : List Charge) (hour : ℕ) (done ts : List Taken) → filter (is_beside id) (covered_after cs rows hour done ts) ≡ []
taken_beside id cs rows hour done [] = refl
taken_beside id cs rows hour done (t ∷ ts) =
    let first = covered_by hour (slice_get cs t.commitment) (slice_get rows t.row) t (left_of rows done t.row) in
    filter-append (is_beside id) first (covered_after cs rows hour (done ++ t ∷ []) ts)
    ∙ ap (λ l. l ++ filter (is_beside id) (covered_after cs rows hour (done ++ t ∷ []) ts)) (taken_by_none id hour (slice_get cs t.commitment) (slice_get rows t.row) t (left_of rows done t.row))
    ∙ taken_beside id cs rows hour (done ++ t ∷ []) ts

-- ---- a row by itself is beside none
no_discount : (row : Charge) → is_eligible row ≡ true → is_none row.discount ≡ true
unfolding is_eligible
no_discount row h = (and_parts _ (is_none row.discount) (and_parts _ _ (and_parts _ _ (and_parts (is_open_use row) (is_measured row) h).0).0).0).1

without_discount : (id : List ℕ) (o : Option DiscountText) → is_none o ≡ true → option_map_or (λ d. bytes_eq d.id id && is_none d.status) o false ≡ false
without_discount id None none = refl
without_discount id (Some d) none = absurd (cc)

alone_beside : (id : List ℕ) (cs : List CommitmentValue) (hour : ℕ) (row : Charge) → filter (is_beside id) (coverable_of cs hour row) ≡ []
unfolding coverable_of coverable_line given_line
alone_beside id cs hour row = two_ways (list_any (applies hour row) cs)
    (λ yes. rw (yes, without_discount id row.discount (no_discount row (open_eligible cs hour row yes))) refl)
    (λ no. rw no refl)

-- ---- a row once in a unit is beside none
most_beside : (id : List ℕ) (hour : ℕ) (row : Charge) (cs : List CommitmentValue) → filter (is_beside id) (most_of hour row cs) ≡ []
unfolding unit_line
most_beside id hour row [] = refl
most_beside id hour row (c ∷ cs) = two_ways (bytes_eq c.id id) (λ same. rw same refl) (λ other. rw other refl)

units_beside : (id : List ℕ) (cs : List CommitmentValue) (hour : ℕ) (row : Charge) → filter (is_beside id) (unit_lines_of cs hour row) ≡ []
unfolding unit_lines_of
units_beside id cs hour row =
    let quantity : List LineValue = most_of hour row (filter (counts hour row false) cs) in
    let cost : List LineValue = most_of hour row (filter (counts hour row true) cs) in
    filter-append (is_beside id) quantity cost ∙ (rw (most_beside id hour row (filter (counts hour row false) cs), most_beside id hour row (filter (counts hour row true) cs)) refl)

-- ---- a row beside the commitments that apply to it
none_usable : (hour : ℕ) (row : Charge) (c : CommitmentValue) → applies hour row c ≡ false → usable hour row c ≡ 0
unfolding applies usable
none_usable hour row c none = by (applied c hour row) none
  where
    by : (o : Option (Option ℕ)) → is_some o ≡ false → whole_at row o ≡ 0
    by None e = refl
    by (Some rate) e = absurd (cc)

row_says : (id : List ℕ) (hour : ℕ) (row : Charge) (cs : List CommitmentValue) → billed_of_all (filter (is_beside id) (eligible_of cs hour row)) ≡ pos (sum_by (usable hour row) (filter (λ c. bytes_eq c.id id) cs))
unfolding eligible_of eligible_line
row_says id hour row [] = billed_none
row_says id hour row (c ∷ cs) =
    let rest = row_says id hour row cs in
    let line : LineValue = eligible_line hour row c in
    let lines : List LineValue = filter (is_beside id) (eligible_of cs hour row) in
    let sum = sum_by-cons (usable hour row) c (filter (λ c. bytes_eq c.id id) cs) in
    let more : billed_of_all (line ∷ lines) ≡ pos (usable hour row c) +ℤ billed_of_all lines = billed_cons line lines in
    two_ways (applies hour row c)
    (λ yes. two_ways (bytes_eq c.id id)
    (λ same. rw (yes, same) (omega (arith, ints, rest, sum, more)))
    (λ other. rw (yes, other) rest))
    (λ no.
    let nothing = none_usable hour row c no in
    two_ways (bytes_eq c.id id)
    (λ same. rw (no, same) (omega (arith, ints, rest, sum, nothing)))
    (λ other. rw (no, other) rest))

rows_say : (id : List ℕ) (hour : ℕ) (cs : List CommitmentValue) (rows : List Charge) → billed_of_all (filter (is_beside id) (open_lines cs rows hour)) ≡ pos (sum_by (λ row. sum_by (usable hour row) (filter (λ c. bytes_eq c.id id) cs)) rows)
unfolding open_lines open_lines_of
rows_say id hour cs [] = billed_none
rows_say id hour cs (row ∷ rows) =
    let rest = rows_say id hour cs rows in
    let own = row_says id hour row cs in
    let alone : billed_of_all (filter (is_beside id) (coverable_of cs hour row)) ≡ pos 0 = ap billed_of_all (alone_beside id cs hour row) ∙ billed_none in
    let units : billed_of_all (filter (is_beside id) (unit_lines_of cs hour row)) ≡ pos 0 = ap billed_of_all (units_beside id cs hour row) ∙ billed_none in
    let behind = beside_append id (unit_lines_of cs hour row) (coverable_of cs hour row) in
    let here = beside_append id (eligible_of cs hour row) (unit_lines_of cs hour row ++ coverable_of cs hour row) in
    let both = beside_append id (eligible_of cs hour row ++ (unit_lines_of cs hour row ++ coverable_of cs hour row)) (flat_map (open_lines_of cs hour) rows) in
    let sum = sum_by-cons (λ (row : Charge). sum_by (usable hour row) (filter (λ c. bytes_eq c.id id) cs)) row rows in
    omega (arith, ints, rest, own, alone, units, behind, here, both, sum)

-- ---- by commitment
no_rows : (hour : ℕ) (cs : List CommitmentValue) → sum_by (usable_of hour []) cs ≡ 0
unfolding usable_of
no_rows hour [] = refl
no_rows hour (c ∷ cs) =
    let rest = no_rows hour cs in
    let sum = sum_by-cons (λ (c : CommitmentValue). sum_by (λ (row : Charge). usable hour row c) []) c cs in
    omega (arith, rest, sum)

one_row_more : (hour : ℕ) (row : Charge) (rows : List Charge) (cs : List CommitmentValue) → sum_by (usable hour row) cs + sum_by (usable_of hour rows) cs ≡ sum_by (usable_of hour (row ∷ rows)) cs
unfolding usable_of
one_row_more hour row rows [] = refl
one_row_more hour row rows (c ∷ cs) =
    let rest = one_row_more hour row rows cs in
    let a = sum_by-cons (usable hour row) c cs in
    let b = sum_by-cons (usable_of hour rows) c cs in
    let d = sum_by-cons (usable_of hour (row ∷ rows)) c cs in
    let here = sum_by-cons (λ (row : Charge). usable hour row c) row rows in
    omega (arith, rest, a, b, d, here)

by_commitment : (hour : ℕ) (rows : List Charge) (cs : List CommitmentValue) → sum_by (λ row. sum_by (usable hour row) cs) rows ≡ sum_by (usable_of hour rows) cs
by_commitment hour [] cs = sym (no_rows hour cs)
by_commitment hour (row ∷ rows) cs =
    sum_by-cons (λ (row : Charge). sum_by (usable hour row) cs) row rows ∙ ap (λ n. sum_by (usable hour row) cs + n) (by_commitment hour rows cs) ∙ one_row_more hour row rows cs

pub lines_say : (cs : List CommitmentValue) (rows : List Charge) (hour : ℕ) (id : List ℕ) → billed_of_all (filter (is_beside id) (price_lines cs rows hour)) ≡ pos (sum_by (usable_of hour rows) (filter (λ c. bytes_eq c.id id) cs))
unfolding price_lines covered_lines
lines_say cs rows hour id =
    let both = beside_append id (covered_after cs rows hour [] (hour_cover cs rows hour)) (open_lines cs rows hour) in
    let taken : billed_of_all (filter (is_beside id) (covered_after cs rows hour [] (hour_cover cs rows hour))) ≡ pos 0 =
    ap billed_of_all (taken_beside id cs rows hour [] (hour_cover cs rows hour)) ∙ billed_none in
    let rest = rows_say id hour cs rows in
    let sum = ap pos (by_commitment hour rows (filter (λ c. bytes_eq c.id id) cs)) in
    omega (arith, ints, both, taken, rest, sum)
