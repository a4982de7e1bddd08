-- Lemmas on sums by group.
use Rattle.std.proofs.Common.{append_assoc, ◌≡◌, ◌∙◌, ℕ, ◌+◌, ◌*◌, ◌^◌, ◌<◌, ◌≤◌, ℤ, pos, ◌+ℤ◌, Bool, true, false, ◌||◌, cond, List, [], ◌∷◌, ◌++◌, length, map, fold, take, get_or, Option, Some, None, IfSome, nat_abs, sym, ap, refl, arith, append-nil}
use Rattle.std.proofs.lemmas.Int.{ints}
use Rattle.std.proofs.lemmas.Cmp.{nat_list_eq_equiv}
use Rattle.std.proofs.lemmas.List.{take_more, map-append}
use Rattle.std.proofs.lemmas.List.Elements.{filter-append}
use Rattle.std.proofs.lemmas.List.Folds.{list_any-append}
use Rattle.std.proofs.lemmas.List.Sums.{fold-append}
use Rattle.std.proofs.lemmas.Slice.Eq.{bytes_eq-Decides}
use Rattle.std.specs.List.{list_any}
use Rattle.std.specs.Map.{update}
use Rattle.std.specs.Str.{bytes_eq}
use Rattle.fw_money.specs.Amount.{most_nanos}
use Rattle.fw_sums.specs.Costs.{Cost, groups_of, lines_in, sum_in}
use Rattle.fw_sums.specs.Sums.{sums_of, added, AddsLine, AreAmounts, AreSums, AreSmall, HasRoom}
use Rattle.fw_sums.specs.declared.groups.Groups.{Groups}
use Rattle.fw_sums.specs.declared.groups.Sums.{Sums}

-- one more line of the group
pub sum_in-more : (amount : Cost → ℤ) (costs : List Cost) (c : Cost) (g : List ℕ) → bytes_eq g c.group ≡ true → sum_in amount (costs ++ c ∷ []) g ≡ sum_in amount costs g +ℤ amount c
unfolding sum_in
sum_in-more amount costs c g same =
    ap (λ l. fold ◌+ℤ◌ (pos 0) (map amount l)) (filter-append (λ l. bytes_eq g l.group) costs (c ∷ []) ∙ ap (λ l. lines_in g costs ++ l) (rw same refl))
    ∙ ap (fold ◌+ℤ◌ (pos 0)) (map-append amount (lines_in g costs) (c ∷ []))
    ∙ fold-append ◌+ℤ◌ (pos 0) (map amount (lines_in g costs)) (amount c ∷ [])

-- one more line of another group
pub sum_in-other : (amount : Cost → ℤ) (costs : List Cost) (c : Cost) (g : List ℕ) → bytes_eq g c.group ≡ false → sum_in amount (costs ++ c ∷ []) g ≡ sum_in amount costs g
unfolding sum_in
sum_in-other amount costs c g other =
    ap (λ l. fold ◌+ℤ◌ (pos 0) (map amount l)) (filter-append (λ l. bytes_eq g l.group) costs (c ∷ []) ∙ ap (λ l. lines_in g costs ++ l) (rw other refl) ∙ append-nil (lines_in g costs))

-- a group that no line is in
lines_in-none : (g : List ℕ) (costs : List Cost) → list_any (bytes_eq g) (groups_of costs) ≡ false → lines_in g costs ≡ []
lines_in-none g [] none = refl
lines_in-none g (c ∷ costs) none = by (bytes_eq g c.group) refl (λ h. lines_in-none g costs h)
  where
    by : (b : Bool) → bytes_eq g c.group ≡ b → (list_any (bytes_eq g) (groups_of costs) ≡ false → lines_in g costs ≡ []) → lines_in g (c ∷ costs) ≡ []
    by true e rest = let same : true ≡ false = sym (ap (λ b. b || list_any (bytes_eq g) (groups_of costs)) e) ∙ none in absurd (cc)
    by false e rest = rw e (rest (sym (ap (λ b. b || list_any (bytes_eq g) (groups_of costs)) e) ∙ none))

pub sum_in-none : (amount : Cost → ℤ) (costs : List Cost) (g : List ℕ) → list_any (bytes_eq g) (groups_of costs) ≡ false → sum_in amount costs g ≡ pos 0
unfolding sum_in
sum_in-none amount costs g none = ap (λ l. fold ◌+ℤ◌ (pos 0) (map amount l)) (lines_in-none g costs none)

-- the sums, where there is a line
abbrev pub sums_when : Bool → ℤ → ℤ → Option Sums
sums_when there billed effective = cond there (Some (record { billed = billed; effective = effective })) None

or_true : (b : Bool) → (b || true) ≡ true
or_true true = refl
or_true false = refl

or_false : (b : Bool) → (b || false) ≡ b
or_false true = refl
or_false false = refl

zero_plus : (z : ℤ) → pos 0 +ℤ z ≡ z
zero_plus z = omega (arith, ints)

-- the sums that are kept, with one more line
pub sums_of-more : (costs : List Cost) (c : Cost) (g : List ℕ) → sums_of (costs ++ c ∷ []) g ≡ update bytes_eq (sums_of costs) c.group (Some (added c (sums_of costs c.group))) g
unfolding sums_of
sums_of-more costs c g = by (bytes_eq g c.group) refl
  where
    there : Bool
    there = list_any (bytes_eq g) (groups_of costs)

    there-more : (b : Bool) → bytes_eq g c.group ≡ b → list_any (bytes_eq g) (groups_of (costs ++ c ∷ [])) ≡ (there || (b || false))
    there-more b e = ap (list_any (bytes_eq g)) (map-append (λ l. l.group) costs (c ∷ [])) ∙ list_any-append (bytes_eq g) (groups_of costs) (c.group ∷ []) ∙ ap (λ x. there || (x || false)) e

    grown : (b : Bool) → there ≡ b → Some (record { billed = sum_in (λ l. l.billed) costs g +ℤ c.billed; effective = sum_in (λ l. l.effective) costs g +ℤ c.effective }) ≡ Some (added c (sums_when b (sum_in (λ l. l.billed) costs g) (sum_in (λ l. l.effective) costs g)))
    grown true h = refl
    grown false h = λ j. Some (record {
      billed = (ap (λ z. z +ℤ c.billed) (sum_in-none (λ l. l.billed) costs g h) ∙ zero_plus c.billed) j;
      effective = (ap (λ z. z +ℤ c.effective) (sum_in-none (λ l. l.effective) costs g h) ∙ zero_plus c.effective) j;
    })

    by : (b : Bool) → bytes_eq g c.group ≡ b → sums_of (costs ++ c ∷ []) g ≡ update bytes_eq (sums_of costs) c.group (Some (added c (sums_of costs c.group))) g
    by true e =
        let same : g ≡ c.group = (bytes_eq-Decides g c.group).0 e in
        let met : bytes_eq c.group g ≡ true = nat_list_eq_equiv.symm c.group g ∙ e in
        (λ j. sums_when ((there-more true e ∙ or_true there) j) (sum_in-more (λ l. l.billed) costs c g e j) (sum_in-more (λ l. l.effective) costs c g e j))
        ∙ grown there refl
        ∙ ap (λ q. Some (added c (sums_of costs q))) same
        ∙ sym (ap (λ b. cond b (Some (added c (sums_of costs c.group))) (sums_of costs g)) met)
    by false e =
        let met : bytes_eq c.group g ≡ false = nat_list_eq_equiv.symm c.group g ∙ e in
        (λ j. sums_when ((there-more false e ∙ or_false there) j) (sum_in-other (λ l. l.billed) costs c g e j) (sum_in-other (λ l. l.effective) costs c g e j))
        ∙ sym (ap (λ b. cond b (Some (added c (sums_of costs c.group))) (sums_of costs g)) met)

-- one more line counted
pub AreSums-more : (old new : Groups) (costs : List Cost) (c : Cost) → AreSums old costs → AddsLine old new c → AreSums new (costs ++ c ∷ [])
AreSums-more old new costs c is adds = record {
  sums = λ g.
      adds.sums g ∙ (λ j. update bytes_eq (λ q. is.sums q j) c.group (Some (added c (is.sums c.group j))) g) ∙ sym (sums_of-more costs c g);
}

-- the sums of no lines
pub AreSums-none : (groups : Groups) → groups.by_group.entries ≡ [] → AreSums groups []
unfolding sums_of
AreSums-none groups none = record { sums = λ g. rw none refl }

pub AreSmall-none : AreSmall [] 0
unfolding sum_in
AreSmall-none = record { billed = λ g. omega arith; effective = λ g. omega arith }

-- one more line of amounts
pub AreSmall-more : (costs : List Cost) (c : Cost) (n : ℕ) → AreSmall costs n → AreAmounts c.billed c.effective → AreSmall (costs ++ c ∷ []) (n + 1)
AreSmall-more costs c n small amounts = record {
  billed = λ g. grown (λ l. l.billed) g amounts.billed_small (small.billed g) (bytes_eq g c.group) refl;
  effective = λ g. grown (λ l. l.effective) g amounts.effective_small (small.effective g) (bytes_eq g c.group) refl;
}
  where
    grown : (amount : Cost → ℤ) (g : List ℕ) → nat_abs (amount c) ≤ most_nanos → nat_abs (sum_in amount costs g) ≤ most_nanos * n → (b : Bool) → bytes_eq g c.group ≡ b → nat_abs (sum_in amount (costs ++ c ∷ []) g) ≤ most_nanos * (n + 1)
    grown amount g amount_small sum_small true e = rw (sum_in-more amount costs c g e) (omega (arith, ints))
    grown amount g amount_small sum_small false e = rw (sum_in-other amount costs c g e) (omega arith)

-- a line that isn't counted
pub AreSmall-same : (costs : List Cost) (n : ℕ) → AreSmall costs n → AreSmall costs (n + 1)
AreSmall-same costs n small = record {
  billed = λ g. let h : nat_abs (sum_in (λ c. c.billed) costs g) ≤ most_nanos * n = small.billed g in omega arith;
  effective = λ g. let h : nat_abs (sum_in (λ c. c.effective) costs g) ≤ most_nanos * n = small.effective g in omega arith;
}

-- the sums that are kept may grow
pub room : (costs : List Cost) (n : ℕ) (g : List ℕ) → AreSmall costs n → n < 2 ^ 64 → IfSome (sums_of costs g) HasRoom
unfolding sums_of
room costs n g small few = by (list_any (bytes_eq g) (groups_of costs))
  where
    by : (b : Bool) → IfSome (sums_when b (sum_in (λ c. c.billed) costs g) (sum_in (λ c. c.effective) costs g)) HasRoom
    by true = let billed : nat_abs (sum_in (λ c. c.billed) costs g) ≤ most_nanos * n = small.billed g in
        let effective : nat_abs (sum_in (λ c. c.effective) costs g) ≤ most_nanos * n = small.effective g in
        record { billed = omega arith; effective = omega arith }
    by false = tt

-- one more line of a list is counted
pub one_more : {X : Type 0} (brings : X → Cost) (costs : List Cost) (xs : List X) (i : ℕ) (x : X) → i < length xs → x ≡ get_or xs i x
    → (costs ++ map brings (take i xs)) ++ brings x ∷ [] ≡ costs ++ map brings (take (i + 1) xs)
one_more brings costs xs i x below is =
    append_assoc costs (map brings (take i xs)) (brings x ∷ [])
    ∙ ap (λ l. costs ++ l) (sym (map-append brings (take i xs) (x ∷ [])) ∙ ap (map brings) (ap (λ y. take i xs ++ y ∷ []) is ∙ sym (take_more xs i x below)))
