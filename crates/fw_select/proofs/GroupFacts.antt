-- Lemmas on sums by group.
use Rattle.std.proofs.Common.{◌≡◌, ◌∙◌, ℕ, ℤ, pos, ◌+ℤ◌, Bool, true, false, ◌||◌, List, [], ◌∷◌, ◌++◌, map, fold, Decides, sym, ap, refl, arith, append-nil}
use Rattle.std.proofs.lemmas.Int.{ints}
use Rattle.std.proofs.lemmas.Cmp.{nat_list_eq_equiv}
use Rattle.std.proofs.lemmas.List.{map-append}
use Rattle.std.proofs.lemmas.List.Elements.{filter-append}
use Rattle.std.proofs.lemmas.List.Sums.{fold-append}
use Rattle.std.proofs.lemmas.Slice.Eq.{bytes_eq-Decides}
use Rattle.std.specs.Cmp.Lexicographic.{lists_equiv, pointwise_decides}
use Rattle.std.specs.List.{list_any}
use Rattle.fw_select.specs.Groups.{GroupCost, costs_in, groups_of, is_same, sum_in}

pub is_same-Decides : (g h : List (List ℕ)) → Decides (is_same g h) (g ≡ h)
is_same-Decides g h = pointwise_decides bytes_eq-Decides g h

pub is_same-symm : (g h : List (List ℕ)) → is_same g h ≡ is_same h g
is_same-symm g h = (lists_equiv nat_list_eq_equiv).symm g h

-- one more line of the group
pub sum_in-more : (amount : GroupCost → ℤ) (costs : List GroupCost) (c : GroupCost) (g : List (List ℕ)) → is_same g c.group ≡ true → sum_in amount (costs ++ c ∷ []) g ≡ sum_in amount costs g +ℤ amount c
unfolding sum_in
sum_in-more amount costs c g same =
    ap (λ l. fold ◌+ℤ◌ (pos 0) (map amount l)) (filter-append (λ l. is_same g l.group) costs (c ∷ []) ∙ ap (λ l. costs_in g costs ++ l) (rw same refl))
    ∙ ap (fold ◌+ℤ◌ (pos 0)) (map-append amount (costs_in g costs) (c ∷ []))
    ∙ fold-append ◌+ℤ◌ (pos 0) (map amount (costs_in g costs)) (amount c ∷ [])

-- one more line of another group
pub sum_in-other : (amount : GroupCost → ℤ) (costs : List GroupCost) (c : GroupCost) (g : List (List ℕ)) → is_same g c.group ≡ false → sum_in amount (costs ++ c ∷ []) g ≡ sum_in amount costs g
unfolding sum_in
sum_in-other amount costs c g other =
    ap (λ l. fold ◌+ℤ◌ (pos 0) (map amount l)) (filter-append (λ l. is_same g l.group) costs (c ∷ []) ∙ ap (λ l. costs_in g costs ++ l) (rw other refl) ∙ append-nil (costs_in g costs))

-- a group that no line is in
costs_in-none : (g : List (List ℕ)) (costs : List GroupCost) → list_any (is_same g) (groups_of costs) ≡ false → costs_in g costs ≡ []
costs_in-none g [] none = refl
costs_in-none g (c ∷ costs) none = by (is_same g c.group) refl (λ h. costs_in-none g costs h)
  where
    by : (b : Bool) → is_same g c.group ≡ b → (list_any (is_same g) (groups_of costs) ≡ false → costs_in g costs ≡ []) → costs_in g (c ∷ costs) ≡ []
    by true e rest = let same : true ≡ false = sym (ap (λ b. b || list_any (is_same g) (groups_of costs)) e) ∙ none in absurd (cc)
    by false e rest = rw e (rest (sym (ap (λ b. b || list_any (is_same g) (groups_of costs)) e) ∙ none))

pub sum_in-none : (amount : GroupCost → ℤ) (costs : List GroupCost) (g : List (List ℕ)) → list_any (is_same g) (groups_of costs) ≡ false → sum_in amount costs g ≡ pos 0
unfolding sum_in
sum_in-none amount costs g none = ap (λ l. fold ◌+ℤ◌ (pos 0) (map amount l)) (costs_in-none g costs none)

-- nothing and an amount
pub zero_plus : (z : ℤ) → pos 0 +ℤ z ≡ z
zero_plus z = omega (arith, ints)
