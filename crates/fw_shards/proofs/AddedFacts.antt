-- Totals, as entries are added to them.
use Rattle.std.proofs.Common.{◌≡◌, ◌∙◌, ℕ, zero, suc, ◌+◌, ◌-◌, ◌<◌, ◌≤◌, ◌||◌, Bool, true, false, cond, ℤ, pos, ◌+ℤ◌, nat_abs, List, [], ◌∷◌, ◌++◌, length, get_or, set, take, drop, map, fold, sum_by, refl, sym, ap, subst, append_assoc, append-nil, ◌^◌, ⊎_elim, Less, Equal, Greater, arith}
use Rattle.std.specs.Str.{bytes_eq}
use Rattle.std.specs.List.{AllByRecursion, Contains, list_any}
use Rattle.std.specs.List.Sorted.{IsPartitionPoint, IsStrictlySortedBy}
use Rattle.std.specs.Ordering.{ordering_reverse}
use Rattle.std.proofs.lemmas.Cmp.{nat_list_cmp_total, nat_list_eq_equiv}
use Rattle.std.proofs.lemmas.Int.{ints}
use Rattle.std.proofs.lemmas.Bool.{cases_lt}
use Rattle.std.proofs.lemmas.Grind.{flat_map-append}
use Rattle.std.proofs.lemmas.List.{get_or-map, length-map, take-append-drop, take_all, take_more}
use Rattle.std.proofs.lemmas.Slice.Eq.{bytes_eq-Decides}
use Rattle.std.proofs.lemmas.List.Sums.{sum_by-append, sum_by-cons}
use Rattle.fw_allocate.specs.Costs.{CostValue, groups_in, size_of}
use Rattle.fw_allocate.proofs.Rising.{apart_from_greater, apart_from_less, order, other_text, rising_tail, same_text, tied_texts}
use Rattle.fw_allocate.proofs.Unique.{head_below}
use Rattle.fw_query.specs.Entries.{PassesAtPlace, plain_entry}
use Rattle.fw_query.specs.Entries as entries
use Rattle.fw_query.specs.Limits.{most_total}
use Rattle.fw_query.specs.Reports.{PassesIn}
use Rattle.fw_query.proofs.ReportFacts.{PassesIn-from_entries, plain_entries}
use Rattle.fw_shards.specs.Added.{CanBeAdded, PassesAtEntry, all_of, billed_size, direct_size, directs, most_added}
use Rattle.fw_shards.specs.Places.{IsGap, StandsAt}
use Rattle.fw_shards.proofs.AlikeFacts.{from-there, group_of_totals, sum_in-one_more, there-from, there-same}
use Rattle.fw_shards.proofs.ListFacts.{two_ways}
use Rattle.fw_sums.specs.Costs.{AreGroups, Cost, groups_of, sum_in}
use Rattle.fw_sums.specs.Totals.{AreTotals, total_of}
use Rattle.fw_sums.proofs.SameFacts.{there-append}
use Rattle.fw_sums.proofs.SumFacts.{sum_in-more, sum_in-none, sum_in-other}
use Rattle.fw_terms.specs.Texts.{IsRising}

-- ---- sizes
size_from : (start : ℕ) (costs : List Cost) → fold (λ t (c : CostValue). t + nat_abs c.cost) start (directs costs) ≡ fold (λ t (c : Cost). t + nat_abs c.effective) start costs
size_from start [] = refl
size_from start (c ∷ costs) = size_from (start + nat_abs c.effective) costs

pub small_sum : (sum : List Cost) → direct_size sum ≤ most_total → size_of (directs sum) ≤ most_total
small_sum sum small = subst (λ (n : ℕ). n ≤ most_total) (sym (size_from 0 sum)) small

plain_from : (start : ℕ) (costs : List Cost) → fold (λ t e. t + nat_abs e.direct) start (map plain_entry costs) ≡ fold (λ t (c : Cost). t + nat_abs c.effective) start costs
plain_from start [] = refl
plain_from start (c ∷ costs) = plain_from (start + nat_abs c.effective) costs

pub first_can : (xs ys : List Cost) → CanBeAdded (xs ++ ys) → CanBeAdded xs
first_can xs ys can =
    let billed : billed_size (xs ++ ys) ≤ most_added = can.billed in
    let direct : direct_size (xs ++ ys) ≤ most_added = can.direct in
    let more = sum_by-append (λ (c : Cost). nat_abs c.billed) xs ys in
    let more_too = sum_by-append (λ (c : Cost). nat_abs c.effective) xs ys in
    record { billed = omega arith; direct = omega arith }

-- a group's sum isn't larger than the absolute costs of all
sum_within : (amount : Cost → ℤ) (costs : List Cost) (g : List ℕ) → nat_abs (sum_in amount costs g) ≤ sum_by (λ c. nat_abs (amount c)) costs
unfolding sum_in
sum_within amount [] g = omega arith
sum_within amount (c ∷ costs) g =
    let rest = sum_within amount costs g in
    let whole = sum_by-cons (λ (x : Cost). nat_abs (amount x)) c costs in
    rw (sum_in-one_more amount c costs g) (two_ways (bytes_eq g c.group)
    (λ holds. rw holds (omega (arith, ints)))
    (λ fails. rw fails (omega (arith, ints))))

-- one entry more can be added to the sum of its group
pub one_more_fits : (amount : Cost → ℤ) (costs : List Cost) (e : Cost) → sum_by (λ c. nat_abs (amount c)) (costs ++ e ∷ []) ≤ most_added → nat_abs (sum_in amount costs e.group +ℤ amount e) ≤ most_added
one_more_fits amount costs e small =
    let more = sum_in-more amount costs e e.group (same_text e.group e.group refl) in
    let bound = sum_within amount (costs ++ e ∷ []) e.group in
    rw (← more) (omega arith)

pub rising_totals : (costs totals : List Cost) → AreTotals costs totals → IsRising (groups_of totals)
rising_totals costs totals are = subst IsRising (sym (ap groups_of are.totals_are ∙ group_of_totals costs are.groups)) are.are_groups.rising

-- ---- the groups of one entry more
more_there : (costs : List Cost) (e : Cost) (g : List ℕ) → list_any (bytes_eq g) (groups_of (costs ++ e ∷ [])) ≡ (list_any (bytes_eq g) (groups_of costs) || bytes_eq g e.group)
more_there costs e g = there-append costs (e ∷ []) g ∙ ap (λ b. list_any (bytes_eq g) (groups_of costs) || b) (or_false (bytes_eq g e.group))
  where
    or_false : (b : Bool) → (b || false) ≡ b
    or_false true = refl
    or_false false = refl

-- lists with the same groups
groups_are : (xs : List Cost) (gs : List (List ℕ)) → IsRising gs → ((g : List ℕ) → list_any (bytes_eq g) gs ≡ list_any (bytes_eq g) (groups_of xs)) → AreGroups xs gs
groups_are xs gs up same = record {
  rising = up;
  each = λ g. (λ c. from-there g (groups_of xs) (sym (same g) ∙ there-from g gs c), λ c. from-there g gs (same g ∙ there-from g (groups_of xs) c));
}

there_are : (xs : List Cost) (gs : List (List ℕ)) → AreGroups xs gs → (g : List ℕ) → list_any (bytes_eq g) gs ≡ list_any (bytes_eq g) (groups_of xs)
there_are xs gs are g = there-same g gs (groups_of xs) (λ c. (are.each g).0 c) (λ c. (are.each g).1 c)

-- ---- the totals of groups that the entry isn't in
total_other : (costs : List Cost) (e : Cost) (h : List ℕ) → bytes_eq h e.group ≡ false → total_of costs h ≡ total_of (costs ++ e ∷ []) h
total_other costs e h other = λ j. record {
  group = h;
  billed = sym (sum_in-other (λ c. c.billed) costs e h other) j;
  effective = sym (sum_in-other (λ c. c.effective) costs e h other) j;
}

totals_other : (costs : List Cost) (e : Cost) (gs : List (List ℕ)) → list_any (bytes_eq e.group) gs ≡ false → map (total_of costs) gs ≡ map (total_of (costs ++ e ∷ [])) gs
totals_other costs e [] none = refl
totals_other costs e (h ∷ gs) none = two_ways (bytes_eq e.group h)
    (λ here. absurd (let clash : true ≡ false = sym (ap (λ b. b || list_any (bytes_eq e.group) gs) here) ∙ none in cc))
    (λ other. λ j.
    total_other costs e h (nat_list_eq_equiv.symm h e.group ∙ other) j ∷ totals_other costs e gs (sym (ap (λ b. b || list_any (bytes_eq e.group) gs) other) ∙ none) j)

pub not_behind : (g : List ℕ) (gs : List (List ℕ)) → IsRising (g ∷ gs) → list_any (bytes_eq g) gs ≡ false
not_behind g gs up = two_ways (list_any (bytes_eq g) gs)
    (λ there. absurd (apart_from_less g g (head_below g g gs up (from-there g gs there)) refl))
    (λ absent. absent)

-- ---- an entry of a group that is there
put_total : (costs : List Cost) (e : Cost) (gs : List (List ℕ)) (k : ℕ) → IsRising gs → k < length gs → get_or gs k e.group ≡ e.group
    → set (map (total_of costs) gs) k (total_of (costs ++ e ∷ []) e.group) ≡ map (total_of (costs ++ e ∷ [])) gs
put_total costs e [] k up low is = absurd (omega arith)
put_total costs e (h ∷ gs) zero up low is =
    λ j. total_of (costs ++ e ∷ []) (sym is j) ∷ totals_other costs e gs (subst (λ x. list_any (bytes_eq x) gs ≡ false) is (not_behind h gs up)) j
put_total costs e (h ∷ gs) (suc k) up low is =
    let inside : k < length gs = omega arith in
    let other : bytes_eq h e.group ≡ false = other_text h e.group (apart_from_less h e.group (head_below h e.group gs up (k, inside, is))) in
    λ j. total_other costs e h other j ∷ put_total costs e gs k (rising_tail h gs up) inside is j

pub AreTotals-put : (costs totals new : List Cost) (e : Cost) (k : ℕ) → AreTotals costs totals → StandsAt (groups_of totals) e.group k → new ≡ set totals k (total_of (costs ++ e ∷ []) e.group)
    → AreTotals (costs ++ e ∷ []) new
AreTotals-put costs totals new e k are stands put =
    let gs : List (List ℕ) = are.groups in
    let named : groups_of totals ≡ gs = ap groups_of are.totals_are ∙ group_of_totals costs gs in
    let at : StandsAt gs e.group k = subst (λ hs. StandsAt hs e.group k) named stands in
    let there : list_any (bytes_eq e.group) gs ≡ true = there-from e.group gs (k, at.below, at.is) in
    record {
      groups = gs;
      are_groups = groups_are (costs ++ e ∷ []) gs are.are_groups.rising (λ g.
          two_ways (bytes_eq g e.group)
          (λ same.
          let is_it : g ≡ e.group = (bytes_eq-Decides g e.group).0 same in
          ap (λ x. list_any (bytes_eq x) gs) is_it ∙ there ∙ sym (more_there costs e g ∙ ap (λ b. list_any (bytes_eq g) (groups_of costs) || b) same ∙ or_true (list_any (bytes_eq g) (groups_of costs))))
          (λ other. there_are costs gs are.are_groups g ∙ sym (more_there costs e g ∙ ap (λ b. list_any (bytes_eq g) (groups_of costs) || b) other ∙ or_false (list_any (bytes_eq g) (groups_of costs)))));
      totals_are = put ∙ ap (λ l. set l k (total_of (costs ++ e ∷ []) e.group)) are.totals_are ∙ put_total costs e gs k are.are_groups.rising at.below at.is;
    }
  where
    or_true : (b : Bool) → (b || true) ≡ true
    or_true true = refl
    or_true false = refl

    or_false : (b : Bool) → (b || false) ≡ b
    or_false true = refl
    or_false false = refl

-- ---- an entry of a new group
all_with : (P : List ℕ → Type 0) (gs : List (List ℕ)) (i : ℕ) (g : List ℕ) → AllByRecursion P gs → P g → AllByRecursion P (take i gs ++ g ∷ drop i gs)
all_with P gs zero g all is = (is, all)
all_with P [] (suc i) g all is = (is, all)
all_with P (h ∷ gs) (suc i) g all is = (all.0, all_with P gs i g all.1 is)

all_above : (g : List ℕ) (gs : List (List ℕ)) → ((k : ℕ) → k < length gs → order (get_or gs k g) g ≡ Greater) → AllByRecursion (λ y. order g y ≡ Less) gs
all_above g [] above = tt
all_above g (h ∷ gs) above = (
  nat_list_cmp_total.antisymm g h ∙ ap ordering_reverse (above 0 (omega arith)),
  all_above g gs (λ k low. above (suc k) (omega arith)),
)

rising_with : (gs : List (List ℕ)) (i : ℕ) (g : List ℕ) → IsRising gs → ((k : ℕ) → k < length gs → k < i → order (get_or gs k g) g ≡ Less) → ((k : ℕ) → k < length gs → i ≤ k → order (get_or gs k g) g ≡ Greater)
    → IsRising (take i gs ++ g ∷ drop i gs)
unfolding IsStrictlySortedBy
rising_with gs zero g up before after = (all_above g gs (λ k low. after k low (omega arith)), up)
rising_with [] (suc i) g up before after = (tt, tt)
rising_with (h ∷ gs) (suc i) g up before after = (
  all_with (λ y. order h y ≡ Less) gs i g up.0 (before 0 (omega arith) (omega arith)),
  rising_with gs i g up.1 (λ k low less. before (suc k) (omega arith) (omega arith)) (λ k low more. after (suc k) (omega arith) (omega arith)),
)

there_with : (g : List ℕ) (gs : List (List ℕ)) (i : ℕ) (h : List ℕ) → list_any (bytes_eq h) (take i gs ++ g ∷ drop i gs) ≡ (list_any (bytes_eq h) gs || bytes_eq h g)
there_with g gs zero h = or_comm (bytes_eq h g) (list_any (bytes_eq h) gs)
  where
    or_comm : (a b : Bool) → (a || b) ≡ (b || a)
    or_comm true true = refl
    or_comm true false = refl
    or_comm false true = refl
    or_comm false false = refl
there_with g [] (suc i) h = or_false (bytes_eq h g)
  where
    or_false : (b : Bool) → (b || false) ≡ b
    or_false true = refl
    or_false false = refl
there_with g (x ∷ gs) (suc i) h = ap (λ b. bytes_eq h x || b) (there_with g gs i h) ∙ or_assoc (bytes_eq h x) (list_any (bytes_eq h) gs) (bytes_eq h g)
  where
    or_assoc : (a b c : Bool) → (a || (b || c)) ≡ ((a || b) || c)
    or_assoc true b c = refl
    or_assoc false b c = refl

map_with : {X Y : Type 0} (f : X → Y) (xs : List X) (i : ℕ) (x : X) → map f (take i xs ++ x ∷ drop i xs) ≡ take i (map f xs) ++ f x ∷ drop i (map f xs)
map_with f xs zero x = refl
map_with f [] (suc i) x = refl
map_with f (y ∷ xs) (suc i) x = ap (λ l. f y ∷ l) (map_with f xs i x)

absent : (gs : List (List ℕ)) (g : List ℕ) (i : ℕ) → ((k : ℕ) → k < length gs → k < i → order (get_or gs k g) g ≡ Less) → ((k : ℕ) → k < length gs → i ≤ k → order (get_or gs k g) g ≡ Greater) → list_any (bytes_eq g) gs ≡ false
absent gs g i before after = two_ways (list_any (bytes_eq g) gs)
    (λ there.
    let at = from-there g gs there in
    absurd (⊎_elim
    (λ low. apart_from_less (get_or gs at.0 g) g (before at.0 at.1 low) at.2)
    (λ high. apart_from_greater (get_or gs at.0 g) g (after at.0 at.1 high) at.2)
    (cases_lt at.0 i)))
    (λ none. none)

nothing_plus : (z : ℤ) → pos 0 +ℤ z ≡ z
nothing_plus z = omega (arith, ints)

-- the total of the new group is the entry
first_total : (costs : List Cost) (e : Cost) → list_any (bytes_eq e.group) (groups_of costs) ≡ false → e ≡ total_of (costs ++ e ∷ []) e.group
first_total costs e none = λ j. record {
  group = e.group;
  billed = sym (sum_in-more (λ c. c.billed) costs e e.group (same_text e.group e.group refl) ∙ ap (λ z. z +ℤ e.billed) (sum_in-none (λ c. c.billed) costs e.group none) ∙ nothing_plus e.billed) j;
  effective = sym (sum_in-more (λ c. c.effective) costs e e.group (same_text e.group e.group refl) ∙ ap (λ z. z +ℤ e.effective) (sum_in-none (λ c. c.effective) costs e.group none) ∙ nothing_plus e.effective) j;
}

pub AreTotals-insert : (costs totals new : List Cost) (e : Cost) (k : ℕ) → AreTotals costs totals → IsGap (groups_of totals) e.group k → new ≡ take k totals ++ e ∷ drop k totals → AreTotals (costs ++ e ∷ []) new
AreTotals-insert costs totals new e k are gap put =
    let gs : List (List ℕ) = are.groups in
    let named : groups_of totals ≡ gs = ap groups_of are.totals_are ∙ group_of_totals costs gs in
    let at : IsGap gs e.group k = subst (λ hs. IsGap hs e.group k) named gap in
    let none : list_any (bytes_eq e.group) gs ≡ false = absent gs e.group k at.before at.after in
    let nowhere : list_any (bytes_eq e.group) (groups_of costs) ≡ false = sym (there_are costs gs are.are_groups e.group) ∙ none in
    record {
      groups = take k gs ++ e.group ∷ drop k gs;
      are_groups = groups_are (costs ++ e ∷ []) (take k gs ++ e.group ∷ drop k gs) (rising_with gs k e.group are.are_groups.rising at.before at.after) (λ g.
          there_with e.group gs k g ∙ ap (λ b. b || bytes_eq g e.group) (there_are costs gs are.are_groups g) ∙ sym (more_there costs e g));
      totals_are =
          put ∙ ap (λ l. take k l ++ e ∷ drop k l) (are.totals_are ∙ totals_other costs e gs none)
          ∙ ap (λ x. take k (map (total_of (costs ++ e ∷ [])) gs) ++ x ∷ drop k (map (total_of (costs ++ e ∷ [])) gs)) (first_total costs e nowhere)
          ∙ sym (map_with (total_of (costs ++ e ∷ [])) gs k e.group);
    }

-- ---- where totals pass the most
take_map : {X Y : Type 0} (f : X → Y) (k : ℕ) (xs : List X) → take k (map f xs) ≡ map f (take k xs)
take_map f zero xs = refl
take_map f (suc k) [] = refl
take_map f (suc k) (x ∷ xs) = ap (λ l. f x ∷ l) (take_map f k xs)

plain_size : (k : ℕ) (totals : List Cost) → entries.direct_size (take k (map plain_entry totals)) ≡ direct_size (take k totals)
plain_size k totals = ap entries.direct_size (take_map plain_entry k totals) ∙ plain_from 0 (take k totals)

pub PassesIn-from_totals : (costs totals : List Cost) (place : ℕ) (t : Cost) → AreTotals costs totals → PassesAtEntry totals place → t ≡ get_or totals place t → PassesIn costs t.group
PassesIn-from_totals costs totals place t are passes is =
    let below : place < length totals = passes.below in
    let passes_there : PassesAtPlace (map plain_entry totals) place = record {
      below = omega (arith, length-map totals plain_entry);
      within = subst (λ (n : ℕ). n ≤ most_total) (sym (plain_size place totals)) passes.within;
      past = subst (λ (n : ℕ). most_total < n) (sym (plain_size (place + 1) totals)) passes.past;
    } in
    PassesIn-from_entries costs (map plain_entry totals) place (plain_entry t) (plain_entries costs totals are) passes_there
    (ap plain_entry is ∙ sym (get_or-map plain_entry totals place t (plain_entry t) below))

-- ---- where a search finds a group, or doesn't
pub stands_at : (totals : List Cost) (g : List ℕ) (k : ℕ) → k < length totals → ((d : Cost) → order (get_or totals k d).group g ≡ Equal) → StandsAt (groups_of totals) g k
stands_at totals g k low tied =
    let d : Cost = record { group = g; billed = pos 0; effective = pos 0 } in
    record {
      below = omega (arith, length-map totals (λ (c : Cost). c.group));
      is = get_or-map (λ (c : Cost). c.group) totals k d g low ∙ tied_texts (get_or totals k d).group g (tied d);
    }

pub gap_at : (totals : List Cost) (g : List ℕ) (k : ℕ) → IsPartitionPoint (λ c. order c.group g ≡ Less) (λ c. order c.group g ≡ Greater) totals k → k ≤ length totals → IsGap (groups_of totals) g k × (k ≤ length (groups_of totals))
gap_at totals g k point low =
    let d : Cost = record { group = g; billed = pos 0; effective = pos 0 } in
    let long = length-map totals (λ (c : Cost). c.group) in (
      record {
        before = λ i below less.
            let inside : i < length totals = omega arith in
            ap (λ x. order x g) (get_or-map (λ (c : Cost). c.group) totals i d g inside) ∙ point.0 i d (omega arith) less;
        after = λ i below more.
            let inside : i < length totals = omega arith in
            ap (λ x. order x g) (get_or-map (λ (c : Cost). c.group) totals i d g inside) ∙ point.1 i d more inside;
      },
      omega (arith, long, low),
    )

-- ---- entries and reports in turn
pub one_behind : (costs es : List Cost) (i : ℕ) (e : Cost) → i < length es → e ≡ get_or es i e → (costs ++ take i es) ++ e ∷ [] ≡ costs ++ take (i + 1) es
one_behind costs es i e below is =
    append_assoc costs (take i es) (e ∷ []) ∙ ap (λ l. costs ++ l) (ap (λ x. take i es ++ x ∷ []) is ∙ sym (take_more es i e below))

pub can_more : (costs es : List Cost) (i : ℕ) (e : Cost) → i < length es → e ≡ get_or es i e → CanBeAdded (costs ++ es) → CanBeAdded ((costs ++ take i es) ++ e ∷ [])
can_more costs es i e below is can =
    let whole : costs ++ es ≡ ((costs ++ take i es) ++ e ∷ []) ++ drop (i + 1) es =
    ap (λ l. costs ++ l) (sym (take-append-drop (i + 1) es)) ∙ sym (append_assoc costs (take (i + 1) es) (drop (i + 1) es)) ∙ ap (λ l. l ++ drop (i + 1) es) (sym (one_behind costs es i e below is)) in
    first_can ((costs ++ take i es) ++ e ∷ []) (drop (i + 1) es) (subst CanBeAdded whole can)

pub one_report : (rs : List (List Cost)) (i : ℕ) (r : List Cost) → i < length rs → r ≡ get_or rs i r → all_of (take i rs) ++ r ≡ all_of (take (i + 1) rs)
one_report rs i r below is =
    ap (λ x. all_of (take i rs) ++ x) is
    ∙ ap (λ x. all_of (take i rs) ++ x) (sym (append-nil (get_or rs i r)))
    ∙ sym (ap all_of (take_more rs i r below) ∙ flat_map-append (λ (x : List Cost). x) (take i rs) (get_or rs i r ∷ []))

pub can_reports : (rs : List (List Cost)) (i : ℕ) (r : List Cost) → i < length rs → r ≡ get_or rs i r → CanBeAdded (all_of rs) → CanBeAdded (all_of (take i rs) ++ r)
can_reports rs i r below is can =
    let whole : all_of rs ≡ (all_of (take i rs) ++ r) ++ all_of (drop (i + 1) rs) =
    ap all_of (sym (take-append-drop (i + 1) rs)) ∙ flat_map-append (λ (x : List Cost). x) (take (i + 1) rs) (drop (i + 1) rs) ∙ ap (λ l. l ++ all_of (drop (i + 1) rs)) (sym (one_report rs i r below is)) in
    first_can (all_of (take i rs) ++ r) (all_of (drop (i + 1) rs)) (subst CanBeAdded whole can)

pub no_totals : AreTotals [] []
unfolding IsStrictlySortedBy
no_totals = record { groups = []; are_groups = record { rising = tt; each = λ g. (λ c. c, λ c. c) }; totals_are = refl }

-- ---- the total of a group that is there
found : (costs totals : List Cost) (e : Cost) (k : ℕ) (one : Cost) → AreTotals costs totals → StandsAt (groups_of totals) e.group k → one ≡ get_or totals k one → one ≡ total_of costs e.group
found costs totals e k one are stands is =
    let gs : List (List ℕ) = are.groups in
    let named : groups_of totals ≡ gs = ap groups_of are.totals_are ∙ group_of_totals costs gs in
    let at : StandsAt gs e.group k = subst (λ hs. StandsAt hs e.group k) named stands in
    is ∙ ap (λ l. get_or l k one) are.totals_are ∙ get_or-map (total_of costs) gs k e.group one at.below ∙ ap (total_of costs) at.is

pub billed_fits : (costs totals : List Cost) (e : Cost) (k : ℕ) (one : Cost) → AreTotals costs totals → CanBeAdded (costs ++ e ∷ []) → StandsAt (groups_of totals) e.group k → one ≡ get_or totals k one
    → nat_abs (one.billed +ℤ e.billed) < 2 ^ 127
billed_fits costs totals e k one are can stands is =
    let small : nat_abs (sum_in (λ c. c.billed) costs e.group +ℤ e.billed) ≤ most_added = one_more_fits (λ c. c.billed) costs e can.billed in
    let same : one.billed ≡ sum_in (λ c. c.billed) costs e.group = ap (λ (c : Cost). c.billed) (found costs totals e k one are stands is) in
    rw same (omega arith)

pub direct_fits : (costs totals : List Cost) (e : Cost) (k : ℕ) (one : Cost) → AreTotals costs totals → CanBeAdded (costs ++ e ∷ []) → StandsAt (groups_of totals) e.group k → one ≡ get_or totals k one
    → nat_abs (one.effective +ℤ e.effective) < 2 ^ 127
direct_fits costs totals e k one are can stands is =
    let small : nat_abs (sum_in (λ c. c.effective) costs e.group +ℤ e.effective) ≤ most_added = one_more_fits (λ c. c.effective) costs e can.direct in
    let same : one.effective ≡ sum_in (λ c. c.effective) costs e.group = ap (λ (c : Cost). c.effective) (found costs totals e k one are stands is) in
    rw same (omega arith)

pub added_total : (costs totals : List Cost) (e : Cost) (k : ℕ) (one new : Cost) → AreTotals costs totals → StandsAt (groups_of totals) e.group k → one ≡ get_or totals k one
    → new.group ≡ one.group → new.billed ≡ one.billed +ℤ e.billed → new.effective ≡ one.effective +ℤ e.effective → new ≡ total_of (costs ++ e ∷ []) e.group
added_total costs totals e k one new are stands is group billed effective =
    let same : one ≡ total_of costs e.group = found costs totals e k one are stands is in
    let here : bytes_eq e.group e.group ≡ true = same_text e.group e.group refl in
    λ j. record {
      group = (group ∙ ap (λ (c : Cost). c.group) same) j;
      billed = (billed ∙ ap (λ (c : Cost). c.billed +ℤ e.billed) same ∙ sym (sum_in-more (λ c. c.billed) costs e e.group here)) j;
      effective = (effective ∙ ap (λ (c : Cost). c.effective +ℤ e.effective) same ∙ sym (sum_in-more (λ c. c.effective) costs e e.group here)) j;
    }

groups_directs : (report : List Cost) → groups_of report ≡ groups_in (directs report)
groups_directs [] = refl
groups_directs (c ∷ report) = ap (λ l. c.group ∷ l) (groups_directs report)

pub rising_report : (report : List Cost) → IsRising (groups_of report) → IsRising (groups_in (directs report))
rising_report report up = subst IsRising (groups_directs report) up
