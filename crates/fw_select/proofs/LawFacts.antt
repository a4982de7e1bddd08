-- Costs of groups that are put under other groups.
use Rattle.std.proofs.Common.{◌≡◌, ◌∙◌, ◌↔◌, ℕ, zero, suc, ℤ, pos, ◌+ℤ◌, Bool, true, false, ◌||◌, ◌&&◌, cond, List, [], ◌∷◌, map, filter, fold, Contains, Ordering, Less, Equal, Greater, is_eq, None, sym, ap, subst, refl, arith, map-id}
use Rattle.std.proofs.lemmas.Int.{ints}
use Rattle.std.proofs.lemmas.Map.Made.{is_member-Decides}
use Rattle.std.proofs.lemmas.Map.Text.{is_eq-slice_cmp}
use Rattle.std.specs.Cmp.Lexicographic.{slice_cmp}
use Rattle.std.specs.List.{AllByRecursion, list_any}
use Rattle.std.specs.List.Sorted.{IsStrictlySortedBy}
use Rattle.std.specs.Ordering.{nat_cmp}
use Rattle.fw_allocate.specs.Costs.{total}
use Rattle.fw_allocate.proofs.Totals.{sum_add, sum_of, sum_same, total_cons}
use Rattle.fw_amortise.specs.LineValue.{LineValue}
use Rattle.fw_select.specs.Groups.{AreRising, AreTotals, GroupCost, costs_in, groups_of, is_same, sum_in, total_of}
use Rattle.fw_select.specs.Keys.{mapped, source_text, value}
use Rattle.fw_select.specs.Laws.{IsPlain, IsWithout, mapped_group, plain, regrouped, without}
use Rattle.fw_select.specs.Selectors.{costs_of, group_by, is_taken, line_cost, passes}
use Rattle.fw_select.specs.declared.key.Key.{Key}
use Rattle.fw_select.specs.declared.selector.Selector.{Selector}
use Rattle.fw_select.proofs.GroupFacts.{is_same-Decides, is_same-symm, zero_plus}
use Rattle.fw_select.proofs.TableFacts.{is_eq-then}

or_right : (a b : Bool) → b ≡ true → (a || b) ≡ true
or_right true b e = refl
or_right false b e = e

-- ---- sums over groups

-- an amount in one group, and nothing in the others
abbrev pub only : List (List ℕ) → ℤ → List (List ℕ) → ℤ
only k a g = cond (is_same k g) a (pos 0)

-- an amount under a test
abbrev pub when : Bool → ℤ → ℤ
when b a = cond b a (pos 0)

when_add : (b : Bool) (x y : ℤ) → when b (x +ℤ y) ≡ when b x +ℤ when b y
when_add true x y = refl
when_add false x y = refl

when_nothing : (b : Bool) → when b (pos 0) ≡ pos 0
when_nothing true = refl
when_nothing false = refl

-- groups that rise differ
ties_texts : (xs ys : List (List ℕ)) → is_eq (slice_cmp (slice_cmp nat_cmp) xs ys) ≡ is_same xs ys
ties_texts [] [] = refl
ties_texts [] (y ∷ ys) = refl
ties_texts (x ∷ xs) [] = refl
ties_texts (x ∷ xs) (y ∷ ys) = is_eq-then (slice_cmp nat_cmp x y) (slice_cmp (slice_cmp nat_cmp) xs ys) ∙ (λ i. is_eq-slice_cmp x y i && ties_texts xs ys i)

apart_below : (k : List (List ℕ)) (gs : List (List (List ℕ))) → AllByRecursion (λ y. slice_cmp (slice_cmp nat_cmp) k y ≡ Less) gs → AllByRecursion (λ y. is_same k y ≡ false) gs
apart_below k [] h = tt
apart_below k (g ∷ gs) h = (sym (ties_texts k g) ∙ ap is_eq h.0, apart_below k gs h.1)

-- an amount of a group that isn't among these
only_none : (test : List (List ℕ) → Bool) (k : List (List ℕ)) (a : ℤ) (gs : List (List (List ℕ))) → AllByRecursion (λ y. is_same k y ≡ false) gs → sum_of (λ g. when (test g) (only k a g)) gs ≡ pos 0
only_none test k a [] apart = refl
only_none test k a (g ∷ gs) apart =
    total_cons (when (test g) (only k a g)) (map (λ g. when (test g) (only k a g)) gs)
    ∙ (λ j. when (test g) (cond (apart.0 j) a (pos 0)) +ℤ only_none test k a gs apart.1 j)
    ∙ ap (λ z. z +ℤ pos 0) (when_nothing (test g))

-- an amount of a group that is among these is there once
only_once : (test : List (List ℕ) → Bool) (k : List (List ℕ)) (a : ℤ) (gs : List (List (List ℕ))) → AreRising gs → list_any (is_same k) gs ≡ true → sum_of (λ g. when (test g) (only k a g)) gs ≡ when (test k) a
unfolding IsStrictlySortedBy
only_once test k a [] up there = absurd (cc)
only_once test k a (g ∷ gs) up there = by (is_same k g) refl (λ rest. only_once test k a gs up.1 rest)
  where
    by : (b : Bool) → is_same k g ≡ b → (list_any (is_same k) gs ≡ true → sum_of (λ g. when (test g) (only k a g)) gs ≡ when (test k) a) → sum_of (λ g. when (test g) (only k a g)) (g ∷ gs) ≡ when (test k) a
    by true e rest =
        let same : k ≡ g = (is_same-Decides k g).0 e in
        let apart : AllByRecursion (λ y. is_same k y ≡ false) gs = subst (λ x. AllByRecursion (λ y. is_same x y ≡ false) gs) (sym same) (apart_below g gs up.0) in
        let left : when (test g) (a) +ℤ pos 0 ≡ when (test g) a = omega (arith, ints) in
        total_cons (when (test g) (only k a g)) (map (λ g. when (test g) (only k a g)) gs)
        ∙ (λ j. when (test g) (cond (e j) a (pos 0)) +ℤ only_none test k a gs apart j)
        ∙ left ∙ ap (λ x. when (test x) a) (sym same)
    by false e rest =
        total_cons (when (test g) (only k a g)) (map (λ g. when (test g) (only k a g)) gs)
        ∙ (λ j. when (test g) (cond (e j) a (pos 0)) +ℤ rest (ap (λ b. b || list_any (is_same k) gs) (sym e) ∙ there) j)
        ∙ ap (λ z. z +ℤ when (test k) a) (when_nothing (test g)) ∙ zero_plus (when (test k) a)

-- ---- costs under other groups

pub sum_in-nothing : (pick : GroupCost → ℤ) (g : List (List ℕ)) → sum_in pick [] g ≡ pos 0
unfolding sum_in
sum_in-nothing pick g = refl

-- one more line in front
pub sum_in-cons : (pick : GroupCost → ℤ) (c : GroupCost) (costs : List GroupCost) (g : List (List ℕ)) → sum_in pick (c ∷ costs) g ≡ only c.group (pick c) g +ℤ sum_in pick costs g
unfolding sum_in
sum_in-cons pick c costs g = by (is_same g c.group) refl
  where
    by : (b : Bool) → is_same g c.group ≡ b
        → total (map pick (cond (is_same g c.group) (c ∷ costs_in g costs) (costs_in g costs))) ≡ cond (is_same c.group g) (pick c) (pos 0) +ℤ total (map pick (costs_in g costs))
    by true e =
        let met : is_same c.group g ≡ true = is_same-symm c.group g ∙ e in
        rw (e, met) (total_cons (pick c) (map pick (costs_in g costs)))
    by false e =
        let met : is_same c.group g ≡ false = is_same-symm c.group g ∙ e in
        rw (e, met) (omega (arith, ints))

module _ (pick : GroupCost → ℤ) (f : List (List ℕ) → List (List ℕ))
    (keeps : (c : GroupCost) → pick (record { group = f c.group; billed = c.billed; effective = c.effective; amount = c.amount }) ≡ pick c) where
  -- the sum under another group, line by line
  sum_regrouped : (costs : List GroupCost) (g : List (List ℕ)) → sum_in pick (regrouped f costs) g ≡ sum_of (λ c. when (is_same g (f c.group)) (pick c)) costs
  sum_regrouped [] g = sum_in-nothing pick g
  sum_regrouped (c ∷ costs) g =
      sum_in-cons pick (record { group = f c.group; billed = c.billed; effective = c.effective; amount = c.amount }) (regrouped f costs) g
      ∙ (λ j. cond (is_same-symm (f c.group) g j) (keeps c j) (pos 0) +ℤ sum_regrouped costs g j)
      ∙ sym (total_cons (when (is_same g (f c.group)) (pick c)) (map (λ c. when (is_same g (f c.group)) (pick c)) costs))

-- the sums of no lines
sums_of_nothing : (pick : GroupCost → ℤ) (test : List (List ℕ) → Bool) (gs : List (List (List ℕ))) → sum_of (λ h. when (test h) (sum_in pick [] h)) gs ≡ pos 0
unfolding sum_in
sums_of_nothing pick test [] = refl
sums_of_nothing pick test (g ∷ gs) =
    total_cons (when (test g) (pos 0)) (map (λ h. when (test h) (pos 0)) gs)
    ∙ (λ j. when_nothing (test g) j +ℤ sums_of_nothing pick test gs j)

-- the sums of groups that pass a test are the sum of the lines whose groups do
sum_of_groups : (pick : GroupCost → ℤ) (test : List (List ℕ) → Bool) (costs : List GroupCost) (gs : List (List (List ℕ))) → AreRising gs → ((g : List (List ℕ)) → list_any (is_same g) (groups_of costs) ≡ true → list_any (is_same g) gs ≡ true)
    → sum_of (λ h. when (test h) (sum_in pick costs h)) gs ≡ sum_of (λ c. when (test c.group) (pick c)) costs
sum_of_groups pick test [] gs up there = sums_of_nothing pick test gs
sum_of_groups pick test (c ∷ costs) gs up there =
    let own : is_same c.group c.group ≡ true = (is_same-Decides c.group c.group).1 refl in
    sum_same (λ h. when (test h) (sum_in pick (c ∷ costs) h)) (λ h. when (test h) (only c.group (pick c) h) +ℤ when (test h) (sum_in pick costs h)) gs
    (λ h. ap (when (test h)) (sum_in-cons pick c costs h) ∙ when_add (test h) (only c.group (pick c) h) (sum_in pick costs h))
    ∙ sum_add (λ h. when (test h) (only c.group (pick c) h)) (λ h. when (test h) (sum_in pick costs h)) gs
    ∙ (λ j. only_once test c.group (pick c) gs up (there c.group (ap (λ b. b || list_any (is_same c.group) (groups_of costs)) own)) j
    +ℤ sum_of_groups pick test costs gs up (λ g m. there g (or_right (is_same g c.group) _ m)) j)
    ∙ sym (total_cons (when (test c.group) (pick c)) (map (λ c. when (test c.group) (pick c)) costs))

-- ---- which groups there are

any_there : (P : List (List ℕ) → Bool) (k : List (List ℕ)) (ys : List (List (List ℕ))) → P k ≡ true → list_any (is_same k) ys ≡ true → list_any P ys ≡ true
any_there P k [] so there = absurd (cc)
any_there P k (y ∷ ys) so there = by (is_same k y) refl (λ rest. any_there P k ys so rest)
  where
    by : (b : Bool) → is_same k y ≡ b → (list_any (is_same k) ys ≡ true → list_any P ys ≡ true) → list_any P (y ∷ ys) ≡ true
    by true e rest = ap (λ b. b || list_any P ys) (ap P (sym ((is_same-Decides k y).0 e)) ∙ so)
    by false e rest = or_right (P y) (list_any P ys) (rest (ap (λ b. b || list_any (is_same k) ys) (sym e) ∙ there))

any_sub : (P : List (List ℕ) → Bool) (xs ys : List (List (List ℕ))) → ((x : List (List ℕ)) → list_any (is_same x) xs ≡ true → list_any (is_same x) ys ≡ true) → list_any P xs ≡ true → list_any P ys ≡ true
any_sub P [] ys sub some = absurd (cc)
any_sub P (x ∷ xs) ys sub some = by (P x) refl (λ rest. any_sub P xs ys (λ y m. sub y (or_right (is_same y x) _ m)) rest)
  where
    by : (b : Bool) → P x ≡ b → (list_any P xs ≡ true → list_any P ys ≡ true) → list_any P ys ≡ true
    by true e rest = any_there P x ys e (sub x (ap (λ b. b || list_any (is_same x) xs) ((is_same-Decides x x).1 refl)))
    by false e rest = rest (ap (λ b. b || list_any P xs) (sym e) ∙ some)

both : (a b : Bool) → (a ≡ true → b ≡ true) → (b ≡ true → a ≡ true) → a ≡ b
both true b f g = sym (f refl)
both false true f g = g refl
both false false f g = refl

any_regrouped : (f : List (List ℕ) → List (List ℕ)) (costs : List GroupCost) (g : List (List ℕ)) → list_any (is_same g) (groups_of (regrouped f costs)) ≡ list_any (λ h. is_same g (f h)) (groups_of costs)
any_regrouped f [] g = refl
any_regrouped f (c ∷ costs) g = ap (λ b. is_same g (f c.group) || b) (any_regrouped f costs g)

groups_of_totals : (costs : List GroupCost) (gs : List (List (List ℕ))) → groups_of (map (total_of costs) gs) ≡ gs
groups_of_totals costs [] = refl
groups_of_totals costs (g ∷ gs) = ap (λ l. g ∷ l) (groups_of_totals costs gs)

-- ---- totals of totals

-- a group is among those of totals where a line is in it
member : (costs totals : List GroupCost) (are : AreTotals costs totals) (g : List (List ℕ)) → list_any (is_same g) are.groups ≡ list_any (is_same g) (groups_of costs)
member costs totals are g =
    let mine = is_member-Decides is_same-Decides are.groups g in
    let lines = is_member-Decides is_same-Decides (groups_of costs) g in
    both (list_any (is_same g) are.groups) (list_any (is_same g) (groups_of costs)) (λ h. lines.1 ((are.are_groups.each g).0 (mine.0 h))) (λ h. mine.1 ((are.are_groups.each g).1 (lines.0 h)))

sum_over_totals : (pick : GroupCost → ℤ) (costs : List GroupCost) (test : List (List ℕ) → Bool) → ((h : List (List ℕ)) → pick (total_of costs h) ≡ sum_in pick costs h) → (gs : List (List (List ℕ)))
    → sum_of (λ c. when (test c.group) (pick c)) (map (total_of costs) gs) ≡ sum_of (λ h. when (test h) (sum_in pick costs h)) gs
sum_over_totals pick costs test is [] = refl
sum_over_totals pick costs test is (g ∷ gs) =
    total_cons (when (test g) (pick (total_of costs g))) (map (λ c. when (test c.group) (pick c)) (map (total_of costs) gs))
    ∙ (λ j. when (test g) (is g j) +ℤ sum_over_totals pick costs test is gs j)
    ∙ sym (total_cons (when (test g) (sum_in pick costs g)) (map (λ h. when (test h) (sum_in pick costs h)) gs))

pub same_totals : (one other : List GroupCost) (gs : List (List (List ℕ))) → ((g : List (List ℕ)) → total_of one g ≡ total_of other g) → map (total_of one) gs ≡ map (total_of other) gs
same_totals one other [] same = refl
same_totals one other (g ∷ gs) same = λ j. same g j ∷ same_totals one other gs same j

-- the groups of totals pass a test where those of the lines do
pub totals_have : (costs totals : List GroupCost) → AreTotals costs totals → (P : List (List ℕ) → Bool) → list_any P (groups_of totals) ≡ list_any P (groups_of costs)
totals_have costs totals are P =
    ap (list_any P) (ap groups_of are.totals_are ∙ groups_of_totals costs are.groups)
    ∙ both (list_any P are.groups) (list_any P (groups_of costs)) (any_sub P are.groups (groups_of costs) (λ x m. sym (member costs totals are x) ∙ m)) (any_sub P (groups_of costs) are.groups (λ x m. member costs totals are x ∙ m))

-- the sums of totals under other groups are those of the lines
pub totals_sum_under : (f : List (List ℕ) → List (List ℕ)) (pick : GroupCost → ℤ) → ((c : GroupCost) → pick (record { group = f c.group; billed = c.billed; effective = c.effective; amount = c.amount }) ≡ pick c)
    → (costs totals : List GroupCost) → ((h : List (List ℕ)) → pick (total_of costs h) ≡ sum_in pick costs h) → AreTotals costs totals → (g : List (List ℕ)) → sum_in pick (regrouped f totals) g ≡ sum_in pick (regrouped f costs) g
totals_sum_under f pick keeps costs totals is are g =
    sum_regrouped pick f keeps totals g
    ∙ ap (sum_of (λ c. when (is_same g (f c.group)) (pick c))) are.totals_are
    ∙ sum_over_totals pick costs (λ h. is_same g (f h)) is are.groups
    ∙ sum_of_groups pick (λ h. is_same g (f h)) costs are.groups are.are_groups.rising (λ x m. member costs totals are x ∙ m)
    ∙ sym (sum_regrouped pick f keeps costs g)

pub totals_sum : (pick : GroupCost → ℤ) → ((c : GroupCost) → pick (record { group = c.group; billed = c.billed; effective = c.effective; amount = c.amount }) ≡ pick c)
    → (costs totals : List GroupCost) → ((h : List (List ℕ)) → pick (total_of costs h) ≡ sum_in pick costs h) → AreTotals costs totals → (g : List (List ℕ)) → sum_in pick totals g ≡ sum_in pick costs g
totals_sum pick keeps costs totals is are g =
    ap (λ l. sum_in pick l g) (sym (map-id totals)) ∙ totals_sum_under (λ h. h) pick keeps costs totals is are g ∙ ap (λ l. sum_in pick l g) (map-id costs)

-- the totals of costs that are put under other groups are those of the totals that are put there
pub totals_of_totals : (f : List (List ℕ) → List (List ℕ)) (costs totals fewer : List GroupCost) → AreTotals costs totals → AreTotals (regrouped f costs) fewer → AreTotals (regrouped f totals) fewer
totals_of_totals f costs totals fewer are few = record {
  groups = few.groups;
  are_groups = record {
    rising = few.are_groups.rising;
    each = λ g.
        let there = is_member-Decides is_same-Decides (groups_of (regrouped f costs)) g in
        let here = is_member-Decides is_same-Decides (groups_of (regrouped f totals)) g in
        (λ h. here.0 (any g ∙ there.1 ((few.are_groups.each g).0 h)), λ h. (few.are_groups.each g).1 (there.0 (sym (any g) ∙ here.1 h)));
  };
  totals_are = few.totals_are ∙ same_totals (regrouped f costs) (regrouped f totals) few.groups (λ g. sym (λ j. record {
    group = g;
    billed = totals_sum_under f (λ c. c.billed) (λ c. refl) costs totals (λ h. refl) are g j;
    effective = totals_sum_under f (λ c. c.effective) (λ c. refl) costs totals (λ h. refl) are g j;
    amount = totals_sum_under f (λ c. c.amount) (λ c. refl) costs totals (λ h. refl) are g j;
  }));
}
  where
    any : (g : List (List ℕ)) → list_any (is_same g) (groups_of (regrouped f totals)) ≡ list_any (is_same g) (groups_of (regrouped f costs))
    any g = any_regrouped f totals g ∙ totals_have costs totals are (λ h. is_same g (f h)) ∙ sym (any_regrouped f costs g)

-- ---- the laws

costs_regrouped : (s other : Selector) (f : List (List ℕ) → List (List ℕ)) → ((line : LineValue) → is_taken other line ≡ is_taken s line) → ((line : LineValue) → (line_cost other line).group ≡ f (line_cost s line).group)
    → (lines : List LineValue) → costs_of other lines ≡ regrouped f (costs_of s lines)
costs_regrouped s other f taken grouped [] = refl
costs_regrouped s other f taken grouped (line ∷ lines) =
    let rest = costs_regrouped s other f taken grouped lines in
    rw (taken line) (by (is_taken s line) rest)
  where
    by : (b : Bool) → costs_of other lines ≡ regrouped f (costs_of s lines)
        → map (line_cost other) (cond b (line ∷ filter (is_taken other) lines) (filter (is_taken other) lines)) ≡ regrouped f (map (line_cost s) (cond b (line ∷ filter (is_taken s) lines) (filter (is_taken s) lines)))
    by true rest = λ j. record { group = grouped line j; billed = line.billed; effective = line.effective; amount = pos 0 } ∷ rest j
    by false rest = rest

values_without : (place : ℕ) (keys : List Key) (line : LineValue) → group_by (without place keys) line ≡ without place (group_by keys line)
values_without place [] line = refl
values_without zero (k ∷ keys) line = refl
values_without (suc place) (k ∷ keys) line = ap (λ l. value k line ∷ l) (values_without place keys line)

values_mapped : (keys : List Key) (line : LineValue) → group_by keys line ≡ mapped_group keys (group_by (map plain keys) line)
unfolding value
values_mapped [] line = refl
values_mapped (k ∷ keys) line = ap (λ l. mapped k.map (source_text k.source line) ∷ l) (values_mapped keys line)

pub without_one : (place : ℕ) (fewer s : Selector) (lines : List LineValue) (groups few : List GroupCost) → IsWithout place fewer s → AreTotals (costs_of s lines) groups → AreTotals (costs_of fewer lines) few
    → AreTotals (regrouped (without place) groups) few
without_one place fewer s lines groups few is all some =
    totals_of_totals (without place) (costs_of s lines) groups few all
    (subst (λ c. AreTotals c few) (costs_regrouped s fewer (without place) (λ line. ap (λ fs. passes fs line) is.filters) (λ line. ap (λ ks. group_by ks line) is.keys ∙ values_without place s.keys.now line) lines) some)

pub mapped_sums : (unmapped s : Selector) (lines : List LineValue) (as_is groups : List GroupCost) → IsPlain unmapped s → AreTotals (costs_of unmapped lines) as_is → AreTotals (costs_of s lines) groups
    → AreTotals (regrouped (mapped_group s.keys.now) as_is) groups
mapped_sums unmapped s lines as_is groups is all some =
    totals_of_totals (mapped_group s.keys.now) (costs_of unmapped lines) as_is groups all
    (subst (λ c. AreTotals c groups) (costs_regrouped unmapped s (mapped_group s.keys.now) (λ line. ap (λ fs. passes fs line) (sym is.filters)) (λ line. values_mapped s.keys.now line ∙ ap (λ ks. mapped_group s.keys.now (group_by ks line)) (sym is.keys)) lines) some)
