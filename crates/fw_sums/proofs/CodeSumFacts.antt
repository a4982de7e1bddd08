-- Lemmas on rows that are summed by the codes of their groups.
use Rattle.std.proofs.Common.{◌≡◌, ◌∙◌, ℕ, suc, ◌+◌, ◌^◌, ◌<◌, ◌≤◌, ◌==◌, ◌&&◌, ◌||◌, nat_lt, ℤ, pos, ◌+ℤ◌, nat_abs, Bool, true, false, cond, List, [], ◌∷◌, ◌++◌, length, map, filter, fold, get_or, All, IfSome, sym, ap, refl, subst, arith, true≢false, append-nil, append_assoc}
use Rattle.std.proofs.lemmas.Bool.{MatchBool-at_false, MatchBool-at_true}
use Rattle.std.proofs.lemmas.Bool.Decides.{nat_tests}
use Rattle.std.proofs.lemmas.Int.{ints}
use Rattle.std.proofs.lemmas.List.{get_or-map, length-map, map-append}
use Rattle.std.proofs.lemmas.List.Elements.{filter-append, recursion_from_All}
use Rattle.std.proofs.lemmas.List.Folds.{list_any-append}
use Rattle.std.proofs.lemmas.List.Sorted.{IsPermutation-append_right, IsPermutation-map}
use Rattle.std.proofs.lemmas.List.Sums.{fold-append}
use Rattle.std.specs.List.{AllByRecursion, list_any}
use Rattle.std.specs.List.Sorted.{IsPermutation}
use Rattle.std.specs.Prelude.{MatchBool}
use Rattle.std.specs.Str.{bytes_eq}
use Rattle.fw_charge.specs.Charge.{Charge}
use Rattle.fw_columns.specs.Codes.{tag_code}
use Rattle.fw_row_table.specs.Names.{Text}
use Rattle.fw_row_table.specs.Texts.{names_of}
use Rattle.fw_cover.proofs.Sorting.{two_ways}
use Rattle.fw_lanes.specs.Masked.{billed_of, effective_of, is_at_code, marks_of, mask_of_code, masked_sum_of}
use Rattle.fw_lanes.specs.declared.by_code.CodeSum.{CodeSum}
use Rattle.fw_money.specs.Amount.{most_nanos}
use Rattle.fw_sums.specs.CodeSums.{AreCodeSums, code_cost, code_text, codes_of}
use Rattle.fw_sums.specs.Costs.{Cost, groups_of, lines_in, sum_in}
use Rattle.fw_sums.specs.Hours.{row_cost}
use Rattle.fw_sums.specs.Sums.{AddsLine, AreAmounts, AreSmall, AreSums, Counts, HasRoom, sums_at, sums_of}
use Rattle.fw_sums.specs.declared.groups.Groups.{Groups}
use Rattle.fw_sums.proofs.FilterFacts.{either_passes}
use Rattle.fw_sums.proofs.CodeFacts.{IsCoded, rows_coded}
use Rattle.fw_sums.proofs.MovedFacts.{sums_of-IsPermutation}
use Rattle.fw_sums.proofs.SumFacts.{AreSmall-more, AreSmall-same, AreSums-more, room, sums_when}

-- ---- costs of one group count as one cost with their sums

-- the sum of an amount
abbrev pub total : (Cost → ℤ) → List Cost → ℤ
total amount costs = fold ◌+ℤ◌ (pos 0) (map amount costs)

from_zero : (start z rest : ℤ) → (start +ℤ z) +ℤ rest ≡ start +ℤ ((pos 0 +ℤ z) +ℤ rest)
from_zero start z rest = omega (arith, ints)

plus_zero : (z : ℤ) → z ≡ z +ℤ pos 0
plus_zero z = omega (arith, ints)

zero_plus : (z : ℤ) → pos 0 +ℤ z ≡ z
zero_plus z = omega (arith, ints)

fold_start : (start : ℤ) (zs : List ℤ) → fold ◌+ℤ◌ start zs ≡ start +ℤ fold ◌+ℤ◌ (pos 0) zs
fold_start start [] = plus_zero start
fold_start start (z ∷ zs) =
    fold_start (start +ℤ z) zs ∙ from_zero start z (fold ◌+ℤ◌ (pos 0) zs) ∙ ap (λ t. start +ℤ t) (sym (fold_start (pos 0 +ℤ z) zs))

-- each cost is in the group
abbrev AreOf : Text → List Cost → Type 0
AreOf group costs = AllByRecursion (λ c. c.group ≡ group) costs

lines_here : (g t : Text) (xs : List Cost) → AreOf t xs → bytes_eq g t ≡ true → lines_in g xs ≡ xs
lines_here g t [] of same = refl
lines_here g t (x ∷ xs) of same = let here : bytes_eq g x.group ≡ true = ap (bytes_eq g) of.0 ∙ same in rw here (ap (λ l. x ∷ l) (lines_here g t xs of.1 same))

lines_elsewhere : (g t : Text) (xs : List Cost) → AreOf t xs → bytes_eq g t ≡ false → lines_in g xs ≡ []
lines_elsewhere g t [] of other = refl
lines_elsewhere g t (x ∷ xs) of other = let there : bytes_eq g x.group ≡ false = ap (bytes_eq g) of.0 ∙ other in rw there (lines_elsewhere g t xs of.1 other)

pub sum_behind : (amount : Cost → ℤ) (costs xs : List Cost) (g : Text) → sum_in amount (costs ++ xs) g ≡ sum_in amount costs g +ℤ total amount (lines_in g xs)
unfolding sum_in
sum_behind amount costs xs g =
    ap (λ l. fold ◌+ℤ◌ (pos 0) (map amount l)) (filter-append (λ c. bytes_eq g c.group) costs xs)
    ∙ ap (fold ◌+ℤ◌ (pos 0)) (map-append amount (lines_in g costs) (lines_in g xs))
    ∙ fold-append ◌+ℤ◌ (pos 0) (map amount (lines_in g costs)) (map amount (lines_in g xs))
    ∙ fold_start (fold ◌+ℤ◌ (pos 0) (map amount (lines_in g costs))) (map amount (lines_in g xs))

same_sum : (amount : Cost → ℤ) (costs xs : List Cost) (b : Cost) (g : Text) → AreOf b.group xs → total amount xs ≡ amount b → sum_in amount (costs ++ xs) g ≡ sum_in amount (costs ++ b ∷ []) g
same_sum amount costs xs b g of whole =
    two_ways (bytes_eq g b.group)
    (λ here.
    sum_behind amount costs xs g
    ∙ ap (λ z. sum_in amount costs g +ℤ z) (ap (total amount) (lines_here g b.group xs of here) ∙ whole ∙ sym (zero_plus (amount b)) ∙ sym (ap (total amount) (lines_here g b.group (b ∷ []) (refl, tt) here)))
    ∙ sym (sum_behind amount costs (b ∷ []) g))
    (λ other.
    sum_behind amount costs xs g
    ∙ ap (λ z. sum_in amount costs g +ℤ z) (ap (total amount) (lines_elsewhere g b.group xs of other) ∙ sym (ap (total amount) (lines_elsewhere g b.group (b ∷ []) (refl, tt) other)))
    ∙ sym (sum_behind amount costs (b ∷ []) g))

twice : (b : Bool) → (b || b) ≡ b
twice true = refl
twice false = refl

or_false : (b : Bool) → (b || false) ≡ b
or_false true = refl
or_false false = refl

any_of : (g t : Text) (x : Cost) (xs : List Cost) → AreOf t (x ∷ xs) → list_any (bytes_eq g) (groups_of (x ∷ xs)) ≡ bytes_eq g t
any_of g t x [] of = or_false (bytes_eq g x.group) ∙ ap (bytes_eq g) of.0
any_of g t x (y ∷ xs) of = (λ j. bytes_eq g (of.0 j) || any_of g t y xs of.1 j) ∙ twice (bytes_eq g t)

-- costs of one group, at least one, are kept as their sums
as_one : (costs : List Cost) (x : Cost) (xs : List Cost) (b : Cost) (g : Text) → AreOf b.group (x ∷ xs) → total (λ c. c.billed) (x ∷ xs) ≡ b.billed → total (λ c. c.effective) (x ∷ xs) ≡ b.effective
    → sums_of (costs ++ x ∷ xs) g ≡ sums_of (costs ++ b ∷ []) g
unfolding sums_of
as_one costs x xs b g of billed effective =
    let any_behind : (ys : List Cost) → list_any (bytes_eq g) (groups_of (costs ++ ys)) ≡ (list_any (bytes_eq g) (groups_of costs) || list_any (bytes_eq g) (groups_of ys)) =
    (λ ys. ap (list_any (bytes_eq g)) (map-append (λ (c : Cost). c.group) costs ys) ∙ list_any-append (bytes_eq g) (groups_of costs) (groups_of ys)) in
    let there : list_any (bytes_eq g) (groups_of (costs ++ x ∷ xs)) ≡ list_any (bytes_eq g) (groups_of (costs ++ b ∷ [])) =
    any_behind (x ∷ xs) ∙ ap (λ q. list_any (bytes_eq g) (groups_of costs) || q) (any_of g b.group x xs of ∙ sym (any_of g b.group b [] (refl, tt))) ∙ sym (any_behind (b ∷ [])) in
    λ j. sums_when (there j) (same_sum (λ c. c.billed) costs (x ∷ xs) b g of billed j) (same_sum (λ c. c.effective) costs (x ∷ xs) b g of effective j)

-- ---- rows by a mask and a code

module _ (p : Charge → Bool) (f : Charge → ℕ) where
  -- those that pass with a lower code, and those that pass with the code
  abbrev pub under : ℕ → List Charge → List Charge
  under k rows = filter (λ r. p r && nat_lt (f r) k) rows

  abbrev pub having : ℕ → List Charge → List Charge
  having k rows = filter (λ r. p r && (f r == k)) rows

  one_code_more : (k : ℕ) (rows : List Charge) → IsPermutation (under k rows ++ having k rows) (under (k + 1) rows)
  one_code_more k rows = either_passes (λ r. p r && nat_lt (f r) k) (λ r. p r && (f r == k)) (λ r. p r && nat_lt (f r) (k + 1)) (λ r. lower (p r) (f r)) (λ r. not_lower (p r) (f r)) rows
    where
      lower : (b : Bool) (n : ℕ) → (b && nat_lt n k) ≡ true → ((b && (n == k)) ≡ false) × ((b && nat_lt n (k + 1)) ≡ true)
      lower true n h = (grind (arith, nat_tests), grind (arith, nat_tests))
      lower false n h = absurd (true≢false (sym h))

      not_lower : (b : Bool) (n : ℕ) → (b && nat_lt n k) ≡ false → (b && nat_lt n (k + 1)) ≡ (b && (n == k))
      not_lower true n h = grind (arith, nat_tests)
      not_lower false n h = refl

  -- no row is below 0, each that passes is below a number that is above all codes
  below_none : (rows : List Charge) → under 0 rows ≡ []
  below_none [] = refl
  below_none (r ∷ rows) = rw (none (p r) (f r)) (below_none rows)
    where
      none : (b : Bool) (n : ℕ) → (b && nat_lt n 0) ≡ false
      none true n = grind (arith, nat_tests)
      none false n = refl

  below_all : (count : ℕ) (rows : List Charge) → AllByRecursion (λ c. c < count) (map f rows) → under count rows ≡ filter p rows
  below_all count [] each = refl
  below_all count (r ∷ rows) each =
      let under : nat_lt (f r) count ≡ true = (let h = each.0 in grind (arith, nat_tests)) in
      let same : (p r && nat_lt (f r) count) ≡ p r = ap (λ b. p r && b) under ∙ and_true (p r) in
      let rest = below_all count rows each.1 in
      rw same (λ j. cond (p r) (r ∷ rest j) (rest j))
    where
      and_true : (b : Bool) → (b && true) ≡ b
      and_true true = refl
      and_true false = refl

  -- what a masked sum by code is the sum of
  sum_at : (key : Text) (amount : Cost → ℤ) (k : ℕ) (rows : List Charge)
      → masked_sum_of (map (λ r. amount (row_cost key r)) rows) (mask_of_code k (map f rows) (map p rows)) ≡ total amount (map (row_cost key) (having k rows))
  sum_at key amount k [] = refl
  sum_at key amount k (r ∷ rows) = let rest = sum_at key amount k rows in
      two_ways (p r && (f r == k))
      (λ yes. rw yes (ap (λ z. amount (row_cost key r) +ℤ z) rest ∙ ap (λ z. z +ℤ total amount (map (row_cost key) (having k rows))) (sym (zero_plus (amount (row_cost key r)))) ∙ sym (fold_start (pos 0 +ℤ amount (row_cost key r)) (map amount (map (row_cost key) (having k rows))))))
      (λ no. rw no (zero_plus _ ∙ rest))

  mark_at : (k : ℕ) (rows : List Charge) → is_at_code k (map f rows) (map p rows) ≡ nat_lt 0 (length (having k rows))
  mark_at k [] = refl
  mark_at k (r ∷ rows) = let rest = mark_at k rows in
      two_ways (p r && (f r == k))
      (λ yes. rw yes (let some : nat_lt 0 (suc (length (having k rows))) ≡ true = grind (arith, nat_tests) in sym some))
      (λ no. rw no rest)

-- the rows with a code are of its group
at_of : (key : Text) (names : List Text) (p : Charge → Bool) (k : ℕ) (rows : List Charge) → AllByRecursion (IsCoded key names) rows → AreOf (code_text names k) (map (row_cost key) (having p (tag_code key names) k rows))
at_of key names p k [] coded = tt
at_of key names p k (r ∷ rows) coded = let rest = at_of key names p k rows coded.1 in
    two_ways (p r && (tag_code key names r == k))
    (λ yes. let code : tag_code key names r ≡ k = codes_agree (p r) (tag_code key names r) yes in rw yes ((sym coded.0.is ∙ ap (code_text names) code), rest))
    (λ no. rw no rest)
  where
    codes_agree : (b : Bool) (n : ℕ) → (b && (n == k)) ≡ true → n ≡ k
    codes_agree true n h = grind (arith, nat_tests)
    codes_agree false n h = absurd (true≢false (sym h))

-- ---- the sums of the rows that a mask picks, code by code

-- what the rows bring that pass with a lower code
abbrev pub brought_below : Text → List Charge → (Charge → Bool) → ℕ → List Cost
brought_below key rows p k = map (row_cost key) (under p (tag_code key (names_of rows)) k rows)

-- one more code
sums_more : (key : Text) (rows : List Charge) (p : Charge → Bool) (k : ℕ) (costs : List Cost) (g : Text)
    → sums_of (costs ++ brought_below key rows p (k + 1)) g ≡ sums_of ((costs ++ brought_below key rows p k) ++ map (row_cost key) (having p (tag_code key (names_of rows)) k rows)) g
sums_more key rows p k costs g =
    let f = tag_code key (names_of rows) in
    let moved = IsPermutation-append_right costs _ _ (IsPermutation-map (row_cost key) (under p f k rows ++ having p f k rows) (under p f (k + 1) rows) (one_code_more p f k rows)) in
    sums_of-IsPermutation _ _ g moved
    ∙ ap (λ l. sums_of l g) (ap (λ l. costs ++ l) (map-append (row_cost key) (under p f k rows) (having p f k rows)) ∙ sym (append_assoc costs (brought_below key rows p k) (map (row_cost key) (having p f k rows))))

pub code_counted : (key : Text) (rows : List Charge) (p : Charge → Bool) (mask : List Bool) (sums : List CodeSum) (costs : List Cost) (old new : Groups) (k : ℕ) → mask ≡ map p rows → AreCodeSums key rows mask sums → k < length sums
    → AreSums old (costs ++ brought_below key rows p k)
    → MatchBool (get_or (marks_of sums) k false) (AddsLine old new (code_cost (names_of rows) sums k)) (new ≡ old)
    → AreSums new (costs ++ brought_below key rows p (k + 1))
code_counted key rows p mask sums costs old new k is are within counted step =
    record { sums = λ g. go (having p f k rows) refl g ∙ sym (sums_more key rows p k costs g) }
  where
    f : Charge → ℕ
    f = tag_code key (names_of rows)

    so_far : List Cost
    so_far = costs ++ brought_below key rows p k

    marked : get_or (marks_of sums) k false ≡ nat_lt 0 (length (having p f k rows))
    marked = are.are.marks.each k within ∙ ap (is_at_code k (codes_of key rows)) is ∙ mark_at p f k rows

    billed : total (λ c. c.billed) (map (row_cost key) (having p f k rows)) ≡ get_or (billed_of sums) k (pos 0)
    billed = sym (are.are.billed_sums.each k within ∙ ap (λ m. masked_sum_of (map (λ (c : Charge). c.billed) rows) (mask_of_code k (codes_of key rows) m)) is ∙ sum_at p f key (λ c. c.billed) k rows)

    effective : total (λ c. c.effective) (map (row_cost key) (having p f k rows)) ≡ get_or (effective_of sums) k (pos 0)
    effective = sym (are.are.effective_sums.each k within ∙ ap (λ m. masked_sum_of (map (λ (c : Charge). c.effective) rows) (mask_of_code k (codes_of key rows) m)) is ∙ sum_at p f key (λ c. c.effective) k rows)

    of : AreOf (code_text (names_of rows) k) (map (row_cost key) (having p f k rows))
    of = at_of key (names_of rows) p k rows (rows_coded key rows)

    go : (here : List Charge) → having p f k rows ≡ here → (g : Text) → sums_at new g ≡ sums_of (so_far ++ map (row_cost key) (having p f k rows)) g
    go [] e g =
        let unmarked : get_or (marks_of sums) k false ≡ false = marked ∙ ap (λ l. nat_lt 0 (length l)) e in
        let stays : new ≡ old = MatchBool-at_false (AddsLine old new (code_cost (names_of rows) sums k)) (new ≡ old) unmarked step in
        ap (λ x. sums_at x g) stays ∙ counted.sums g ∙ ap (λ l. sums_of l g) (sym (append-nil so_far) ∙ ap (λ l. so_far ++ map (row_cost key) l) (sym e))
    go (r ∷ rest) e g =
        let positive : nat_lt 0 (suc (length rest)) ≡ true = grind (arith, nat_tests) in
        let set : get_or (marks_of sums) k false ≡ true = marked ∙ ap (λ l. nat_lt 0 (length l)) e ∙ positive in
        let adds : AddsLine old new (code_cost (names_of rows) sums k) = MatchBool-at_true (AddsLine old new (code_cost (names_of rows) sums k)) (new ≡ old) set step in
        (AreSums-more old new so_far (code_cost (names_of rows) sums k) counted adds).sums g
        ∙ sym (ap (λ l. sums_of (so_far ++ map (row_cost key) l) g) e
        ∙ as_one so_far (row_cost key r) (map (row_cost key) rest) (code_cost (names_of rows) sums k) g
        (subst (λ l. AreOf (code_text (names_of rows) k) (map (row_cost key) l)) e of)
        (subst (λ l. total (λ c. c.billed) (map (row_cost key) l) ≡ get_or (billed_of sums) k (pos 0)) e billed)
        (subst (λ l. total (λ c. c.effective) (map (row_cost key) l) ≡ get_or (effective_of sums) k (pos 0)) e effective))

-- the number of lines stays
pub lines_kept : (b : Bool) (old new : Groups) (cost : Cost) → MatchBool b (AddsLine old new cost) (new ≡ old) → new.lines ≡ old.lines
lines_kept true old new cost adds = adds.lines
lines_kept false old new cost same = ap (λ (g : Groups). g.lines) same

-- ---- no sum is too large

amounts_by_row : (rows : List Charge) → All (λ r. AreAmounts r.billed r.effective) rows → AllByRecursion (λ (r : Charge). AreAmounts r.billed r.effective) rows
amounts_by_row rows all = recursion_from_All (λ (r : Charge). AreAmounts r.billed r.effective) rows all

small_rows : (key : Text) (test : Charge → Bool) (costs : List Cost) (n : ℕ) (rows : List Charge) → AllByRecursion (λ (r : Charge). AreAmounts r.billed r.effective) rows → AreSmall costs n
    → AreSmall (costs ++ map (row_cost key) (filter test rows)) (n + length rows)
small_rows key test costs n [] amounts small =
    let same : n ≡ n + 0 = omega arith in
    subst (AreSmall (costs ++ [])) same (subst (λ l. AreSmall l n) (sym (append-nil costs)) small)
small_rows key test costs n (r ∷ rows) amounts small =
    let longer : n + suc (length rows) ≡ (n + 1) + length rows = omega arith in
    two_ways (test r)
    (λ yes.
    let rest = small_rows key test (costs ++ row_cost key r ∷ []) (n + 1) rows amounts.1 (AreSmall-more costs (row_cost key r) n small amounts.0) in
    rw (yes, longer) (rw (append_assoc costs (row_cost key r ∷ []) (map (row_cost key) (filter test rows))) at rest))
    (λ no. rw (no, longer) (small_rows key test costs (n + 1) rows amounts.1 (AreSmall-same costs n small)))

-- there is room in each group while the codes are counted
pub code_room : (key : Text) (rows : List Charge) (p : Charge → Bool) (costs : List Cost) (groups : Groups) (n k : ℕ) (g : Text) → All (λ r. AreAmounts r.billed r.effective) rows → AreSmall costs n → n + length rows < 2 ^ 64
    → AreSums groups (costs ++ brought_below key rows p k) → IfSome (sums_at groups g) HasRoom
code_room key rows p costs groups n k g amounts small few counted =
    rw (counted.sums g)
    (room (costs ++ brought_below key rows p k) (n + length rows) g (small_rows key (λ r. p r && nat_lt (tag_code key (names_of rows) r) k) costs n rows (amounts_by_row rows amounts) small) few)

-- before the first code
pub no_code_yet : (key : Text) (rows : List Charge) (p : Charge → Bool) (costs : List Cost) (groups : Groups) → AreSums groups costs → AreSums groups (costs ++ brought_below key rows p 0)
no_code_yet key rows p costs groups counted = rw (below_none p (tag_code key (names_of rows)) rows, append-nil costs) counted

-- after the last
pub codes_counted : (key : Text) (rows : List Charge) (p : Charge → Bool) (costs : List Cost) (groups kept : Groups) (count n : ℕ) → All (λ code. code < count) (codes_of key rows) → All (λ r. AreAmounts r.billed r.effective) rows
    → ((g : Text) → sums_at kept g ≡ sums_at groups g) → kept.lines ≡ n + length rows → AreSmall costs n → AreSums groups (costs ++ brought_below key rows p count)
    → Counts kept (costs ++ map (row_cost key) (filter p rows))
codes_counted key rows p costs groups kept count n within amounts same lines small counted =
    let all : under p (tag_code key (names_of rows)) count rows ≡ filter p rows = below_all p (tag_code key (names_of rows)) count rows (recursion_from_All (λ c. c < count) (codes_of key rows) within) in
    record {
      are_sums = record { sums = λ g. same g ∙ (rw all at (counted.sums g)) };
      small = rw lines (small_rows key p costs n rows (amounts_by_row rows amounts) small);
    }

-- amounts, as columns have them
pub rows_of_amounts : (rows : List Charge) → All (λ n. nat_abs n ≤ most_nanos) (map (λ (c : Charge). c.billed) rows) → All (λ n. nat_abs n ≤ most_nanos) (map (λ (c : Charge). c.effective) rows)
    → All (λ r. AreAmounts r.billed r.effective) rows
rows_of_amounts rows billed effective = λ k d below. record {
  billed_small = rw (get_or-map (λ (c : Charge). c.billed) rows k d (pos 0) below) at (billed k (pos 0) (rw (length-map rows (λ (c : Charge). c.billed)) below));
  effective_small = rw (get_or-map (λ (c : Charge). c.effective) rows k d (pos 0) below) at (effective k (pos 0) (rw (length-map rows (λ (c : Charge). c.effective)) below));
}
