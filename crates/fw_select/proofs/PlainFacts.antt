-- In an hour in which no commitment has a line, the lines bring what the rows bring.
use Rattle.std.proofs.Common.{◌≡◌, ◌∙◌, ℕ, ◌+◌, ◌<◌, ℤ, pos, Bool, true, false, cond, not, List, [], ◌∷◌, ◌++◌, length, map, filter, get_or, Some, slice_get, take, sym, ap, refl, subst, arith, append-nil, append_assoc}
use Rattle.std.proofs.lemmas.Grind.{flat_map-append}
use Rattle.std.proofs.lemmas.List.Elements.{All-cons, All-nil, filter_map-append}
use Rattle.std.proofs.lemmas.Option.{slice_get-get_or}
use Rattle.std.proofs.lemmas.List.{get_or_at, length-append, length-map, map-append, take_more}
use Rattle.std.proofs.lemmas.List.Sorted.{IsPermutation-cons, IsPermutation-middle, IsPermutation-refl, IsPermutation-sym, IsPermutation-trans}
use Rattle.std.proofs.Math.Nat.{mul-div_cancel}
use Rattle.std.specs.Borrow.{Bor}
use Rattle.std.specs.List.{AllByRecursion, enumerate_from, flat_map}
use Rattle.std.specs.List.Sorted.{IsPermutation}
use Rattle.std.specs.Prelude.{nat_lt, slice_index, unsigned_abs}
use Rattle.fw_charge.specs.Charge.{Charge, hour_of}
use Rattle.fw_charge.specs.Tags.{group_of}
use Rattle.fw_cover.specs.Cover.{taken_of_row}
use Rattle.fw_cover.specs.Eligible.{is_eligible}
use Rattle.fw_cover.specs.Hour.{left_of, quantities_of, quantity_of}
use Rattle.fw_amortise.specs.LineValue.{LineValue}
use Rattle.fw_amortise.specs.Lines.{given_line, given_lines, rest_line, rest_lines, rest_of, rows_in}
use Rattle.fw_query.specs.Texts.{id_text, or_empty, status_text}
use Rattle.fw_charge.specs.Codes.{category_word}
use Rattle.fw_columns.specs.Hours.{hours_of, places_of_hour}
use Rattle.fw_sums.specs.Hours.{IsThere, lent, rows_at, rows_of_places, rows_there}
use Rattle.fw_sums.proofs.HourFacts.{rows_of_hour_places, segment_there}
use Rattle.fw_sums.specs.declared.hours.HourPlace.{HourPlace}
use Rattle.fw_sums.proofs.UntouchedFacts.{IsWhole, is_whole, plain_lines, positive}
use Rattle.fw_select.specs.Groups.{GroupCost}
use Rattle.fw_select.specs.Rows.{plain_line, sources_of}
use Rattle.fw_select.specs.Selectors.{costs_of, fails, group_on, is_taken, line_cost}
use Rattle.fw_select.specs.declared.key.Column.TheVariants as column
use Rattle.fw_select.specs.declared.key.Source.{Source}
use Rattle.fw_select.specs.declared.key.Source.TheVariants as source
use Rattle.fw_select.specs.declared.selector.Selector.{Selector}
use Rattle.fw_select.proofs.RowFacts.{SameText, all_of, group_same, some_fails}

-- ---- lines that bring the same

-- two lines have what a selector looks at, and cost the same
record LookSame (a b : LineValue) : Type 0 where
  tags : a.tags ≡ b.tags
  sku : a.sku ≡ b.sku
  sub_account : a.sub_account ≡ b.sub_account
  category : a.category ≡ b.category
  commitment : a.commitment ≡ b.commitment
  billed : a.billed ≡ b.billed
  effective : a.effective ≡ b.effective

same_text : (a b : LineValue) → LookSame a b → (from : Source) → SameText a b from
same_text a b same (source.Tag name) = ap (group_of name.now) same.tags
same_text a b same (source.Column column.SkuId) = ap (or_empty (λ s. s)) same.sku
same_text a b same (source.Column column.SubAccountId) = ap (or_empty (λ s. s)) same.sub_account
same_text a b same (source.Column column.ChargeCategory) = ap category_word same.category
same_text a b same (source.Column column.CommitmentDiscountId) = ap id_text same.commitment
same_text a b same (source.Column column.CommitmentDiscountStatus) = ap status_text same.commitment

taken_same : (s : Selector) (a b : LineValue) → LookSame a b → is_taken s a ≡ is_taken s b
taken_same s a b same = ap not (some_fails s.filters.now a b (all_of (SameText a b) (same_text a b same) (map (λ f. f.key.source) s.filters.now)))

cost_same : (s : Selector) (a b : LineValue) → LookSame a b → line_cost s a ≡ line_cost s b
cost_same s a b same =
    let groups : group_on s a ≡ group_on s b = group_same s.keys.now a b (all_of (SameText a b) (same_text a b same) (map (λ k. k.source) s.keys.now)) in
    λ j. record { group = groups j; billed = same.billed j; effective = same.effective j; amount = pos 0 }

-- one such line in front of others
brings_same : (s : Selector) (a b : LineValue) (xs ys : List LineValue) → LookSame a b → costs_of s xs ≡ costs_of s ys → costs_of s (a ∷ xs) ≡ costs_of s (b ∷ ys)
brings_same s a b xs ys same rest =
    ap (λ t. map (line_cost s) (cond t (a ∷ filter (is_taken s) xs) (filter (is_taken s) xs))) (taken_same s a b same) ∙ by (is_taken s b)
  where
    by : (t : Bool) → map (line_cost s) (cond t (a ∷ filter (is_taken s) xs) (filter (is_taken s) xs)) ≡ map (line_cost s) (cond t (b ∷ filter (is_taken s) ys) (filter (is_taken s) ys))
    by true = λ j. cost_same s a b same j ∷ rest j
    by false = rest

-- ---- rows as they were given

given_same : (hour : ℕ) (row : Charge) → LookSame (given_line hour row) (plain_line row)
unfolding given_line
given_same hour row = record { tags = refl; sku = refl; sub_account = refl; category = refl; commitment = refl; billed = refl; effective = refl }

given_each : (s : Selector) (hour : ℕ) (rows : List Charge) → costs_of s (map (given_line hour) rows) ≡ costs_of s (map plain_line rows)
given_each s hour [] = refl
given_each s hour (row ∷ rows) = brings_same s (given_line hour row) (plain_line row) (map (given_line hour) rows) (map plain_line rows) (given_same hour row) (given_each s hour rows)

given_costs : (s : Selector) (rows : List Charge) (hour : ℕ) → costs_of s (given_lines rows hour) ≡ costs_of s (map plain_line (filter (λ row. not (is_eligible row)) rows))
unfolding given_lines
given_costs s rows hour = given_each s hour (filter (λ row. not (is_eligible row)) rows)

-- ---- what is left of rows of which nothing was taken

rest_same : (hour : ℕ) (row : Charge) (u : ℕ) → u ≡ quantity_of row → IsWhole row → LookSame (rest_line hour row u) (plain_line row)
unfolding rest_line
rest_same hour row u is whole = subst (λ q. LookSame (rest_line hour row q) (plain_line row)) (sym is) (record {
  tags = refl;
  sku = refl;
  sub_account = refl;
  category = refl;
  commitment = refl;
  billed = ap pos (mul-div_cancel (unsigned_abs row.billed) whole.quantity) ∙ whole.billed;
  effective = ap pos (mul-div_cancel (unsigned_abs row.effective) whole.quantity) ∙ whole.effective;
})

-- the quantity that is left of the row at a place, where nothing was taken
left_whole : (before after : List Charge) (row : Charge) → left_of (before ++ row ∷ after) [] (length before) ≡ quantity_of row
unfolding left_of taken_of_row
left_whole before after row =
    let at : slice_index (quantities_of (before ++ row ∷ after)) (length before) ≡ quantity_of row =
    ap (λ l. get_or l (length before) 0) (map-append quantity_of before (row ∷ after)) ∙ get_or_at (map quantity_of before) (quantity_of row) (map quantity_of after) 0 (length before) (length-map before quantity_of) in
    omega arith

-- so of each row
lefts_whole : (before after : List Charge) → AllByRecursion (λ (r : ℕ × Charge). left_of (before ++ after) [] r.0 ≡ quantity_of r.1) (enumerate_from (length before) after)
lefts_whole before [] = tt
lefts_whole before (row ∷ after) =
    let same : (before ++ row ∷ []) ++ after ≡ before ++ row ∷ after = append_assoc before (row ∷ []) after in
    let long : length (before ++ row ∷ []) ≡ length before + 1 = length-append before (row ∷ []) in
    (left_whole before after row, rw (same, long) at (lefts_whole (before ++ row ∷ []) after))

rest_each : (s : Selector) (hour : ℕ) (left : ℕ → ℕ) (n : ℕ) (rows : List Charge) → AllByRecursion (λ (r : ℕ × Charge). left r.0 ≡ quantity_of r.1) (enumerate_from n rows)
    → costs_of s (flat_map (λ (r : ℕ × Charge). rest_of hour r.1 (left r.0)) (enumerate_from n rows)) ≡ costs_of s (map plain_line (filter is_eligible rows))
unfolding rest_of
rest_each s hour left n [] h = refl
rest_each s hour left n (row ∷ rows) h = by (is_eligible row) refl (rest_each s hour left (n + 1) rows h.1)
  where
    by : (b : Bool) → is_eligible row ≡ b
        → costs_of s (flat_map (λ (r : ℕ × Charge). rest_of hour r.1 (left r.0)) (enumerate_from (n + 1) rows)) ≡ costs_of s (map plain_line (filter is_eligible rows))
        → costs_of s (flat_map (λ (r : ℕ × Charge). rest_of hour r.1 (left r.0)) (enumerate_from n (row ∷ rows))) ≡ costs_of s (map plain_line (filter is_eligible (row ∷ rows)))
    by true e rest =
        let whole = is_whole row e in
        let some : nat_lt 0 (left n) ≡ true = ap (nat_lt 0) h.0 ∙ positive (quantity_of row) whole.quantity in
        rw (e, some) (brings_same s (rest_line hour row (left n)) (plain_line row) (flat_map (λ (r : ℕ × Charge). rest_of hour r.1 (left r.0)) (enumerate_from (n + 1) rows)) (map plain_line (filter is_eligible rows)) (rest_same hour row (left n) h.0 whole) rest)
    by false e rest = rw e rest

rest_costs : (s : Selector) (rows : List Charge) (hour : ℕ) → costs_of s (rest_lines rows [] hour) ≡ costs_of s (map plain_line (filter is_eligible rows))
unfolding rest_lines
rest_costs s rows hour = rest_each s hour (left_of rows []) 0 rows (lefts_whole [] rows)

-- ---- in another order

pub costs_of-append : (s : Selector) (xs ys : List LineValue) → costs_of s (xs ++ ys) ≡ costs_of s xs ++ costs_of s ys
costs_of-append s [] ys = refl
costs_of-append s (x ∷ xs) ys = by (is_taken s x) (costs_of-append s xs ys)
  where
    by : (t : Bool) → costs_of s (xs ++ ys) ≡ costs_of s xs ++ costs_of s ys
        → map (line_cost s) (cond t (x ∷ filter (is_taken s) (xs ++ ys)) (filter (is_taken s) (xs ++ ys))) ≡ map (line_cost s) (cond t (x ∷ filter (is_taken s) xs) (filter (is_taken s) xs)) ++ costs_of s ys
    by true rest = ap (λ l. line_cost s x ∷ l) rest
    by false rest = rest

-- a line in front of others that is taken, and one that isn't
costs_taken : (s : Selector) (line : LineValue) (xs : List LineValue) → is_taken s line ≡ true → costs_of s (line ∷ xs) ≡ line_cost s line ∷ costs_of s xs
costs_taken s line xs taken = ap (λ t. map (line_cost s) (cond t (line ∷ filter (is_taken s) xs) (filter (is_taken s) xs))) taken

costs_left : (s : Selector) (line : LineValue) (xs : List LineValue) → is_taken s line ≡ false → costs_of s (line ∷ xs) ≡ costs_of s xs
costs_left s line xs left = ap (λ t. map (line_cost s) (cond t (line ∷ filter (is_taken s) xs) (filter (is_taken s) xs))) left

-- what rows bring
abbrev brought : Selector → List Charge → List GroupCost
brought s rows = costs_of s (map plain_line rows)

-- one more row: among those that commitments may cover, or the others
parted_more : (s : Selector) (row : Charge) (rows others covered : List Charge) (b t : Bool) → is_taken s (plain_line row) ≡ t → IsPermutation (brought s rows) (brought s others ++ brought s covered)
    → IsPermutation (brought s (row ∷ rows)) (brought s (cond (not b) (row ∷ others) others) ++ brought s (cond b (row ∷ covered) covered))
parted_more s row rows others covered true true e moved =
    let cost = line_cost s (plain_line row) in
    let apart : IsPermutation (cost ∷ brought s rows) (brought s others ++ cost ∷ brought s covered) =
    IsPermutation-trans _ _ _ (IsPermutation-cons cost (brought s rows) (brought s others ++ brought s covered) moved) (IsPermutation-sym _ _ (IsPermutation-middle (brought s others) cost (brought s covered))) in
    subst (λ l. IsPermutation l (brought s others ++ brought s (row ∷ covered))) (sym (costs_taken s (plain_line row) (map plain_line rows) e))
    (subst (λ l. IsPermutation (cost ∷ brought s rows) (brought s others ++ l)) (sym (costs_taken s (plain_line row) (map plain_line covered) e)) apart)
parted_more s row rows others covered false true e moved =
    let cost = line_cost s (plain_line row) in
    subst (λ l. IsPermutation l (brought s (row ∷ others) ++ brought s covered)) (sym (costs_taken s (plain_line row) (map plain_line rows) e))
    (subst (λ l. IsPermutation (cost ∷ brought s rows) (l ++ brought s covered)) (sym (costs_taken s (plain_line row) (map plain_line others) e)) (IsPermutation-cons cost (brought s rows) (brought s others ++ brought s covered) moved))
parted_more s row rows others covered true false e moved =
    subst (λ l. IsPermutation l (brought s others ++ brought s (row ∷ covered))) (sym (costs_left s (plain_line row) (map plain_line rows) e))
    (subst (λ l. IsPermutation (brought s rows) (brought s others ++ l)) (sym (costs_left s (plain_line row) (map plain_line covered) e)) moved)
parted_more s row rows others covered false false e moved =
    subst (λ l. IsPermutation l (brought s (row ∷ others) ++ brought s covered)) (sym (costs_left s (plain_line row) (map plain_line rows) e))
    (subst (λ l. IsPermutation (brought s rows) (l ++ brought s covered)) (sym (costs_left s (plain_line row) (map plain_line others) e)) moved)

-- the rows that commitments may not cover, and then the others
parted : (s : Selector) (rows : List Charge) → IsPermutation (brought s rows) (brought s (filter (λ row. not (is_eligible row)) rows) ++ brought s (filter is_eligible rows))
parted s [] = IsPermutation-refl []
parted s (row ∷ rows) = parted_more s row rows (filter (λ row. not (is_eligible row)) rows) (filter is_eligible rows) (is_eligible row) (is_taken s (plain_line row)) refl (parted s rows)

pub plain_costs : (s : Selector) (rows : List Charge) (hour : ℕ) → IsPermutation (costs_of s (map plain_line rows)) (costs_of s (plain_lines rows hour))
plain_costs s rows hour =
    let same : costs_of s (plain_lines rows hour) ≡ costs_of s (map plain_line (filter (λ row. not (is_eligible row)) rows)) ++ costs_of s (map plain_line (filter is_eligible rows)) =
    costs_of-append s (given_lines rows hour) (rest_lines rows [] hour) ∙ (λ j. given_costs s rows hour j ++ rest_costs s rows hour j) in
    subst (IsPermutation (costs_of s (map plain_line rows))) (sym same) (parted s rows)

-- ---- one more row

-- there is a row at each place below the length
pub row_there : (rows : List Charge) (place : ℕ) → place < length rows → (row : Charge) × (slice_get rows place ≡ Some row)
row_there [] place below = let no : ⊥ = omega arith in absurd no
row_there (row ∷ rows) place below = (get_or (row ∷ rows) place row, slice_get-get_or (row ∷ rows) place row below)

pub rows_more : (s : Selector) (before : List GroupCost) (rows : List Charge) (places : List ℕ) (i : ℕ) (row : Charge) → i < length places → slice_get rows (get_or places i 0) ≡ Some row
    → (before ++ costs_of s (map plain_line (rows_of_places rows (take i places)))) ++ costs_of s (plain_line row ∷ []) ≡ before ++ costs_of s (map plain_line (rows_of_places rows (take (i + 1) places)))
rows_more s before rows places i row below at =
    let had = rows_of_places rows (take i places) in
    let grown : rows_of_places rows (take (i + 1) places) ≡ had ++ row ∷ [] =
    ap (rows_of_places rows) (take_more places i 0 below) ∙ filter_map-append (slice_get rows) (take i places) (get_or places i 0 ∷ []) ∙ ap (λ l. had ++ l) (rw at refl) in
    append_assoc before (costs_of s (map plain_line had)) (costs_of s (plain_line row ∷ []))
    ∙ ap (λ l. before ++ l) (sym (costs_of-append s (map plain_line had) (plain_line row ∷ [])) ∙ ap (costs_of s) (sym (map-append plain_line had (row ∷ []))) ∙ ap (λ l. costs_of s (map plain_line l)) (sym grown))

-- so of lists of rows
pub places_more : (s : Selector) (before : List GroupCost) (segments : List (List Charge)) (places : List HourPlace) (i : ℕ) (at : HourPlace) → i < length places → at ≡ get_or places i at
    → (before ++ costs_of s (map plain_line (rows_at segments (take i places)))) ++ costs_of s (map plain_line (rows_at segments (at ∷ []))) ≡ before ++ costs_of s (map plain_line (rows_at segments (take (i + 1) places)))
places_more s before segments places i at below is =
    let had = rows_at segments (take i places) in
    let more = rows_at segments (at ∷ []) in
    let grown : rows_at segments (take (i + 1) places) ≡ had ++ more =
    ap (rows_at segments) (take_more places i at below ∙ ap (λ p. take i places ++ p ∷ []) (sym is)) ∙ flat_map-append (rows_there segments) (take i places) (at ∷ []) in
    append_assoc before (costs_of s (map plain_line had)) (costs_of s (map plain_line more))
    ∙ ap (λ l. before ++ l) (sym (costs_of-append s (map plain_line had) (map plain_line more)) ∙ ap (costs_of s) (sym (map-append plain_line had more)) ∙ ap (λ l. costs_of s (map plain_line l)) (sym grown))

-- ---- the rows at a place

-- the segment of a place, as references lend it
pub segment_at : (segments : List (Bor (List Charge))) (at : HourPlace) (s : Bor (List Charge)) → IsThere (lent segments) at → s ≡ get_or segments at.segment s → get_or (lent segments) at.segment [] ≡ s.now
segment_at segments at s there is = segment_there segments (at ∷ []) 0 at s (omega arith) (All-cons (IsThere (lent segments)) at [] there (All-nil (IsThere (lent segments)))) is

-- the rows at the places of an hour of a segment
pub rows_of_place : (segments : List (Bor (List Charge))) (at : HourPlace) (s : Bor (List Charge)) (places : List ℕ) → IsThere (lent segments) at → s ≡ get_or segments at.segment s
    → places ≡ places_of_hour (slice_index (hours_of s.now) at.number) s.now → rows_of_places s.now places ≡ rows_at (lent segments) (at ∷ [])
rows_of_place segments at s places there is are =
    let here : s.now ≡ get_or (lent segments) at.segment [] = sym (segment_at segments at s there is) in
    ap (rows_of_places s.now) are ∙ rows_of_hour_places (slice_index (hours_of s.now) at.number) s.now
    ∙ (λ j. rows_in (slice_index (hours_of (here j)) at.number) (here j)) ∙ sym (append-nil (rows_there (lent segments) at))
