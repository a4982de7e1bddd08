-- Costs that come to the same for every group, and reports of them.
use Rattle.std.proofs.Common.{◌≡◌, ◌∙◌, ℕ, zero, suc, ◌+◌, ◌||◌, All, Bool, true, false, cond, ℤ, pos, negsuc, ◌+ℤ◌, ◌-ℤ◌, List, [], ◌∷◌, ◌++◌, map, filter, sum_by, refl, sym, ap, subst, arith}
use Rattle.std.specs.Prelude.{◌↔◌}
use Rattle.std.specs.List.{AllZip, Contains, flat_map, list_any}
use Rattle.std.specs.List.Sorted.{IsPermutation}
use Rattle.std.specs.Str.{bytes_eq}
use Rattle.std.proofs.lemmas.Cmp.{nat_list_eq_equiv}
use Rattle.std.proofs.lemmas.Int.{ints}
use Rattle.std.proofs.lemmas.List.Sums.{sum_by-cons}
use Rattle.std.proofs.lemmas.List.Sorted.{Contains-permutation, IsPermutation-map, IsPermutation-sym, sum_by-IsPermutation}
use Rattle.std.proofs.lemmas.Map.Made.{is_member-Decides}
use Rattle.std.proofs.lemmas.Slice.Eq.{bytes_eq-Decides}
use Rattle.fw_allocate.specs.Costs.{CostValue, total}
use Rattle.fw_allocate.proofs.Rising.{apart_from_less, rising_tail}
use Rattle.fw_allocate.proofs.Unique.{head_below}
use Rattle.fw_allocate.proofs.Totals.{total_cons}
use Rattle.fw_amortise.specs.LineValue.{LineValue}
use Rattle.fw_query.specs.Reports.{direct_costs, entries_of}
use Rattle.fw_shards.specs.Added.{directs}
use Rattle.fw_shards.proofs.ListFacts.{two_ways}
use Rattle.fw_sums.specs.Costs.{AreGroups, Cost, costs_of, groups_of, line_cost, lines_in, sum_in}
use Rattle.fw_sums.specs.RangeLines.{joined}
use Rattle.fw_sums.specs.Totals.{AreTotals, total_of}
use Rattle.fw_sums.proofs.SameFacts.{BringSame, lines_sum-append, lines_there-append, sum_in-append, there-append}
use Rattle.fw_sums.proofs.SumFacts.{sum_in-none}
use Rattle.fw_terms.specs.Texts.{IsRising}

-- ---- sums over lists with the same elements
plus : ℤ → ℕ
plus (pos n) = n
plus (negsuc n) = 0

minus : ℤ → ℕ
minus (pos n) = 0
minus (negsuc n) = suc n

signed : (z : ℤ) → z ≡ pos (plus z) -ℤ pos (minus z)
unfolding plus minus
signed (pos n) = omega (arith, ints)
signed (negsuc n) = omega (arith, ints)

total_parts : {X : Type 0} (f : X → ℤ) (xs : List X) → total (map f xs) ≡ pos (sum_by (λ x. plus (f x)) xs) -ℤ pos (sum_by (λ x. minus (f x)) xs)
total_parts f [] = refl
total_parts f (x ∷ xs) =
    let rest = total_parts f xs in
    let one = signed (f x) in
    rw (total_cons (f x) (map f xs), sum_by-cons (λ y. plus (f y)) x xs, sum_by-cons (λ y. minus (f y)) x xs) (omega (arith, ints))

total_alike : {X : Type 0} (f : X → ℤ) (xs ys : List X) → IsPermutation xs ys → total (map f xs) ≡ total (map f ys)
total_alike f xs ys p =
    total_parts f xs
    ∙ ap (λ n. pos n -ℤ pos (sum_by (λ x. minus (f x)) xs)) (sym (sum_by-IsPermutation (λ x. plus (f x)) xs ys p))
    ∙ ap (λ n. pos (sum_by (λ x. plus (f x)) ys) -ℤ pos n) (sym (sum_by-IsPermutation (λ x. minus (f x)) xs ys p))
    ∙ sym (total_parts f ys)

-- ---- the sum of a group, cost by cost
abbrev own : (Cost → ℤ) → List ℕ → Cost → ℤ
own amount g c = cond (bytes_eq g c.group) (amount c) (pos 0)

pub sum_in-one_more : (amount : Cost → ℤ) (c : Cost) (costs : List Cost) (g : List ℕ) → sum_in amount (c ∷ costs) g ≡ own amount g c +ℤ sum_in amount costs g
unfolding sum_in
sum_in-one_more amount c costs g = two_ways (bytes_eq g c.group)
    (λ holds. rw holds (total_cons (amount c) (map amount (lines_in g costs))))
    (λ fails. rw fails (omega (arith, ints)))

masked : (amount : Cost → ℤ) (costs : List Cost) (g : List ℕ) → sum_in amount costs g ≡ total (map (own amount g) costs)
unfolding sum_in
masked amount [] g = refl
masked amount (c ∷ costs) g =
    sum_in-one_more amount c costs g ∙ ap (λ z. own amount g c +ℤ z) (masked amount costs g) ∙ sym (total_cons (own amount g c) (map (own amount g) costs))

-- ---- groups that are there
pub there-from : (g : List ℕ) (gs : List (List ℕ)) → Contains gs g → list_any (bytes_eq g) gs ≡ true
there-from g gs c = (is_member-Decides bytes_eq-Decides gs g).1 c

pub from-there : (g : List ℕ) (gs : List (List ℕ)) → list_any (bytes_eq g) gs ≡ true → Contains gs g
from-there g gs e = (is_member-Decides bytes_eq-Decides gs g).0 e

pub there-same : (g : List ℕ) (gs hs : List (List ℕ)) → (Contains gs g → Contains hs g) → (Contains hs g → Contains gs g) → list_any (bytes_eq g) gs ≡ list_any (bytes_eq g) hs
there-same g gs hs to from = two_ways (list_any (bytes_eq g) gs)
    (λ here. here ∙ sym (there-from g hs (to (from-there g gs here))))
    (λ absent. two_ways (list_any (bytes_eq g) hs)
    (λ there. let back : list_any (bytes_eq g) gs ≡ true = there-from g gs (from (from-there g hs there)) in absurd (let clash : true ≡ false = sym back ∙ absent in cc))
    (λ nowhere. absent ∙ sym nowhere))

-- ---- the same costs in another order
pub alike-permutation : (xs ys : List Cost) → IsPermutation xs ys → BringSame xs ys
alike-permutation xs ys p = record {
  there = λ g. there-same g (groups_of xs) (groups_of ys)
      (λ c. Contains-permutation (groups_of xs) (groups_of ys) g (IsPermutation-map (λ (c : Cost). c.group) xs ys p) c)
      (λ c. Contains-permutation (groups_of ys) (groups_of xs) g (IsPermutation-sym (groups_of xs) (groups_of ys) (IsPermutation-map (λ (c : Cost). c.group) xs ys p)) c);
  billed = λ g. masked (λ c. c.billed) xs g ∙ total_alike (own (λ c. c.billed) g) xs ys p ∙ sym (masked (λ c. c.billed) ys g);
  effective = λ g. masked (λ c. c.effective) xs g ∙ total_alike (own (λ c. c.effective) g) xs ys p ∙ sym (masked (λ c. c.effective) ys g);
}

pub alike-lines : (key : List ℕ) (xs ys : List LineValue) → IsPermutation xs ys → BringSame (costs_of key xs) (costs_of key ys)
alike-lines key xs ys p = alike-permutation (costs_of key xs) (costs_of key ys) (IsPermutation-map (line_cost key) xs ys p)

pub alike-itself : (xs : List Cost) → BringSame xs xs
alike-itself xs = record { there = λ g. refl; billed = λ g. refl; effective = λ g. refl }

pub alike-sym : (xs ys : List Cost) → BringSame xs ys → BringSame ys xs
alike-sym xs ys s = record { there = λ g. sym (s.there g); billed = λ g. sym (s.billed g); effective = λ g. sym (s.effective g) }

pub alike-trans : (xs ys zs : List Cost) → BringSame xs ys → BringSame ys zs → BringSame xs zs
alike-trans xs ys zs s t = record { there = λ g. s.there g ∙ t.there g; billed = λ g. s.billed g ∙ t.billed g; effective = λ g. s.effective g ∙ t.effective g }

pub alike-append : (xs ys us vs : List Cost) → BringSame xs ys → BringSame us vs → BringSame (xs ++ us) (ys ++ vs)
alike-append xs ys us vs s t = record {
  there = λ g. there-append xs us g ∙ (λ j. s.there g j || t.there g j) ∙ sym (there-append ys vs g);
  billed = λ g. sum_in-append (λ c. c.billed) xs us g ∙ (λ j. s.billed g j +ℤ t.billed g j) ∙ sym (sum_in-append (λ c. c.billed) ys vs g);
  effective = λ g. sum_in-append (λ c. c.effective) xs us g ∙ (λ j. s.effective g j +ℤ t.effective g j) ∙ sym (sum_in-append (λ c. c.effective) ys vs g);
}

-- ---- totals come to what they are totals of
pub group_of_totals : (costs : List Cost) (gs : List (List ℕ)) → groups_of (map (total_of costs) gs) ≡ gs
group_of_totals costs [] = refl
group_of_totals costs (g ∷ gs) = ap (λ l. g ∷ l) (group_of_totals costs gs)

not_later : (g : List ℕ) (gs : List (List ℕ)) → IsRising (g ∷ gs) → list_any (bytes_eq g) gs ≡ false
not_later g gs up = two_ways (list_any (bytes_eq g) gs)
    (λ there.
    absurd (apart_from_less g g (head_below g g gs up (from-there g gs there)) refl))
    (λ absent. absent)

once : (amount : Cost → ℤ) (costs : List Cost) (gs : List (List ℕ)) (g : List ℕ) → IsRising gs → list_any (bytes_eq g) gs ≡ true → sum_in amount (map (total_of costs) gs) g ≡ amount (total_of costs g)
once amount costs [] g up there = absurd (let clash : false ≡ true = there in cc)
once amount costs (h ∷ gs) g up there = two_ways (bytes_eq g h)
    (λ here.
    let same : g ≡ h = (bytes_eq-Decides g h).0 here in
    let later : list_any (bytes_eq g) (groups_of (map (total_of costs) gs)) ≡ false =
    ap (list_any (bytes_eq g)) (group_of_totals costs gs) ∙ ap (λ x. list_any (bytes_eq x) gs) same ∙ not_later h gs up in
    sum_in-one_more amount (total_of costs h) (map (total_of costs) gs) g
    ∙ ap (λ t. cond t (amount (total_of costs h)) (pos 0) +ℤ sum_in amount (map (total_of costs) gs) g) here
    ∙ ap (λ z. amount (total_of costs h) +ℤ z) (sum_in-none amount (map (total_of costs) gs) g later)
    ∙ plus_nothing (amount (total_of costs h))
    ∙ ap (λ x. amount (total_of costs x)) (sym same))
    (λ other.
    sum_in-one_more amount (total_of costs h) (map (total_of costs) gs) g
    ∙ ap (λ t. cond t (amount (total_of costs h)) (pos 0) +ℤ sum_in amount (map (total_of costs) gs) g) other
    ∙ nothing_plus (sum_in amount (map (total_of costs) gs) g)
    ∙ once amount costs gs g (rising_tail h gs up) (sym (ap (λ b. b || list_any (bytes_eq g) gs) other) ∙ there))
  where
    plus_nothing : (z : ℤ) → z +ℤ pos 0 ≡ z
    plus_nothing z = omega (arith, ints)

    nothing_plus : (z : ℤ) → pos 0 +ℤ z ≡ z
    nothing_plus z = omega (arith, ints)

pub alike-totals : (costs totals : List Cost) → AreTotals costs totals → BringSame costs totals
alike-totals costs totals are = subst (BringSame costs) (sym are.totals_are) (record {
  there = there;
  billed = sums (λ c. c.billed) (λ g. refl);
  effective = sums (λ c. c.effective) (λ g. refl);
})
  where
    gs : List (List ℕ)
    gs = are.groups

    there : (g : List ℕ) → list_any (bytes_eq g) (groups_of costs) ≡ list_any (bytes_eq g) (groups_of (map (total_of costs) are.groups))
    there g =
        there-same g (groups_of costs) are.groups (λ c. (are.are_groups.each g).1 c) (λ c. (are.are_groups.each g).0 c)
        ∙ ap (list_any (bytes_eq g)) (sym (group_of_totals costs are.groups))

    sums : (amount : Cost → ℤ) → ((g : List ℕ) → amount (total_of costs g) ≡ sum_in amount costs g) → (g : List ℕ) → sum_in amount costs g ≡ sum_in amount (map (total_of costs) are.groups) g
    sums amount is g = two_ways (list_any (bytes_eq g) are.groups)
        (λ here. sym (once amount costs are.groups g are.are_groups.rising here ∙ is g))
        (λ absent.
        sum_in-none amount costs g (there g ∙ ap (list_any (bytes_eq g)) (group_of_totals costs are.groups) ∙ absent)
        ∙ sym (sum_in-none amount (map (total_of costs) are.groups) g (ap (list_any (bytes_eq g)) (group_of_totals costs are.groups) ∙ absent)))

-- ---- what costs that come to the same have in common
pub groups-alike : (xs ys : List Cost) (gs : List (List ℕ)) → BringSame xs ys → AreGroups xs gs → AreGroups ys gs
groups-alike xs ys gs same are = record {
  rising = are.rising;
  each = λ g. (
    λ c. from-there g (groups_of ys) (sym (same.there g) ∙ there-from g (groups_of xs) ((are.each g).0 c)),
    λ c. (are.each g).1 (from-there g (groups_of xs) (same.there g ∙ there-from g (groups_of ys) c)),
  );
}

total-alike : (xs ys : List Cost) → BringSame xs ys → (gs : List (List ℕ)) → map (total_of xs) gs ≡ map (total_of ys) gs
total-alike xs ys same [] = refl
total-alike xs ys same (g ∷ gs) = λ j. record { group = g; billed = same.billed g j; effective = same.effective g j } ∷ total-alike xs ys same gs j

pub totals-alike : (xs ys totals : List Cost) → BringSame xs ys → AreTotals xs totals → AreTotals ys totals
totals-alike xs ys totals same are = record {
  groups = are.groups;
  are_groups = groups-alike xs ys are.groups same are.are_groups;
  totals_are = are.totals_are ∙ total-alike xs ys same are.groups;
}

-- ---- lists of lines
-- the sum over all lines is that of the sums over each list
pub sum-each : (amount : Cost → ℤ) (key : List ℕ) (each : List (List LineValue)) (g : List ℕ) → sum_in amount (costs_of key (joined each)) g ≡ total (map (λ lines. sum_in amount (costs_of key lines) g) each)
unfolding sum_in
sum-each amount key [] g = refl
sum-each amount key (l ∷ each) g =
    lines_sum-append amount key l (joined each) g
    ∙ ap (λ z. sum_in amount (costs_of key l) g +ℤ z) (sum-each amount key each g)
    ∙ sym (total_cons (sum_in amount (costs_of key l) g) (map (λ lines. sum_in amount (costs_of key lines) g) each))

-- lines of two lists, one behind the other
pub alike-joined : (key : List ℕ) (xs ys : List LineValue) → BringSame (costs_of key (xs ++ ys)) (costs_of key xs ++ costs_of key ys)
alike-joined key xs ys = record {
  there = λ g. lines_there-append key xs ys g ∙ sym (there-append (costs_of key xs) (costs_of key ys) g);
  billed = λ g. lines_sum-append (λ c. c.billed) key xs ys g ∙ sym (sum_in-append (λ c. c.billed) (costs_of key xs) (costs_of key ys) g);
  effective = λ g. lines_sum-append (λ c. c.effective) key xs ys g ∙ sym (sum_in-append (λ c. c.effective) (costs_of key xs) (costs_of key ys) g);
}

-- ---- what is charged over costs that come to the same
pub entries-alike : (xs ys : List Cost) → BringSame xs ys → (charged : List CostValue) → entries_of xs charged ≡ entries_of ys charged
unfolding entries_of
entries-alike xs ys same [] = refl
entries-alike xs ys same (c ∷ charged) =
    let rest = entries-alike xs ys same charged in
    λ j. record { group = c.group; billed = same.billed c.group j; direct = same.effective c.group j; charged = c.cost } ∷ rest j

pub directs-alike : (xs ys : List Cost) → BringSame xs ys → (gs : List (List ℕ)) → direct_costs xs gs ≡ direct_costs ys gs
unfolding direct_costs
directs-alike xs ys same [] = refl
directs-alike xs ys same (g ∷ gs) = let rest = directs-alike xs ys same gs in λ j. record { group = g; cost = same.effective g j } ∷ rest j

pub directs-totals : (costs : List Cost) (gs : List (List ℕ)) → directs (map (total_of costs) gs) ≡ direct_costs costs gs
unfolding direct_costs
directs-totals costs [] = refl
directs-totals costs (g ∷ gs) = let rest = directs-totals costs gs in ap (λ l. record { group = g; cost = sum_in (λ c. c.effective) costs g } ∷ l) rest
