-- Lines that a filter takes, and those that its opposite takes.
use Rattle.std.proofs.Common.{◌≡◌, ◌∙◌, ℕ, ℤ, pos, ◌+ℤ◌, Bool, true, false, not, ◌||◌, ◌&&◌, cond, List, [], ◌∷◌, ◌++◌, map, filter, sym, ap, subst, refl, arith, map-id}
use Rattle.std.proofs.lemmas.Int.{ints}
use Rattle.std.proofs.lemmas.List.{map-append}
use Rattle.std.proofs.lemmas.List.Folds.{list_any-append}
use Rattle.std.proofs.lemmas.Map.Made.{is_member-Decides}
use Rattle.std.specs.List.{list_any}
use Rattle.fw_amortise.specs.LineValue.{LineValue}
use Rattle.fw_select.specs.Groups.{AreTotals, GroupCost, groups_of, is_same, sum_in, total_of}
use Rattle.fw_select.specs.Keys.{value}
use Rattle.fw_select.specs.Laws.{AreOpposite, AreSplit, regrouped}
use Rattle.fw_select.specs.Selectors.{costs_of, fails, group_by, is_taken, is_value, line_cost, passes}
use Rattle.fw_select.specs.declared.selector.Filter.{Filter}
use Rattle.fw_select.specs.declared.selector.Selector.{Selector}
use Rattle.fw_select.proofs.GroupFacts.{is_same-Decides, zero_plus}
use Rattle.fw_select.proofs.LawFacts.{only, same_totals, sum_in-cons, sum_in-nothing, totals_have, totals_sum}

flip : (b v : Bool) → cond (not b) (not v) v ≡ not (cond b (not v) v)
flip true true = refl
flip true false = refl
flip false v = refl

-- of opposite filters one fails where the other doesn't
fails_opposite : (f g : Filter) (line : LineValue) → AreOpposite f g → fails g line ≡ not (fails f line)
fails_opposite f g line o =
    (λ i. cond (o.other i) (not (is_value (o.values i) (value (o.key i) line))) (is_value (o.values i) (value (o.key i) line)))
    ∙ flip f.is_one (is_value f.values.now (value f.key line))

passes_more : (fs : List Filter) (f : Filter) (line : LineValue) → passes (fs ++ f ∷ []) line ≡ (passes fs line && not (fails f line))
passes_more fs f line = ap not (list_any-append (λ f. fails f line) fs (f ∷ [])) ∙ by (list_any (λ f. fails f line) fs) (fails f line)
  where
    by : (a b : Bool) → not (a || (b || false)) ≡ (not a && not b)
    by true b = refl
    by false true = refl
    by false false = refl

-- ---- a list that is split by a test

module _ (k : LineValue → GroupCost) (t y n : LineValue → Bool) (b : LineValue → Bool)
    (is_yes : (line : LineValue) → y line ≡ (t line && not (b line))) (is_no : (line : LineValue) → n line ≡ (t line && not (not (b line)))) where
  split_sum : (pick : GroupCost → ℤ) (lines : List LineValue) (g : List (List ℕ)) → sum_in pick (map k (filter t lines)) g ≡ sum_in pick (map k (filter y lines)) g +ℤ sum_in pick (map k (filter n lines)) g
  split_sum pick [] g = rw (sum_in-nothing pick g) refl
  split_sum pick (line ∷ lines) g =
      let rest = split_sum pick lines g in
      rw (is_yes line, is_no line) (by (t line) (b line) rest)
    where
      Y : List GroupCost
      Y = map k (filter y lines)

      N : List GroupCost
      N = map k (filter n lines)

      by : (p q : Bool) → sum_in pick (map k (filter t lines)) g ≡ sum_in pick Y g +ℤ sum_in pick N g
          → sum_in pick (map k (cond p (line ∷ filter t lines) (filter t lines))) g
          ≡ sum_in pick (map k (cond (p && not q) (line ∷ filter y lines) (filter y lines))) g +ℤ sum_in pick (map k (cond (p && not (not q)) (line ∷ filter n lines) (filter n lines))) g
      by false q rest = rest
      by true false rest =
          rw (sum_in-cons pick (k line) (map k (filter t lines)) g, sum_in-cons pick (k line) Y g, rest) (omega (arith, ints))
      by true true rest =
          rw (sum_in-cons pick (k line) (map k (filter t lines)) g, sum_in-cons pick (k line) N g, rest) (omega (arith, ints))

  split_any : (P : List (List ℕ) → Bool) (lines : List LineValue) → list_any P (groups_of (map k (filter t lines))) ≡ (list_any P (groups_of (map k (filter y lines))) || list_any P (groups_of (map k (filter n lines))))
  split_any P [] = refl
  split_any P (line ∷ lines) =
      let rest = split_any P lines in
      rw (is_yes line, is_no line) (by (t line) (b line) rest)
    where
      Y : Bool
      Y = list_any P (groups_of (map k (filter y lines)))

      N : Bool
      N = list_any P (groups_of (map k (filter n lines)))

      left : (a x y : Bool) → (a || (x || y)) ≡ ((a || x) || y)
      left true x y = refl
      left false x y = refl

      right : (a x y : Bool) → (a || (x || y)) ≡ (x || (a || y))
      right true true y = refl
      right true false y = refl
      right false x y = refl

      by : (p q : Bool) → list_any P (groups_of (map k (filter t lines))) ≡ (Y || N)
          → list_any P (groups_of (map k (cond p (line ∷ filter t lines) (filter t lines))))
          ≡ (list_any P (groups_of (map k (cond (p && not q) (line ∷ filter y lines) (filter y lines)))) || list_any P (groups_of (map k (cond (p && not (not q)) (line ∷ filter n lines) (filter n lines)))))
      by false q rest = rest
      by true false rest = ap (λ z. P (k line).group || z) rest ∙ left (P (k line).group) Y N
      by true true rest = ap (λ z. P (k line).group || z) rest ∙ right (P (k line).group) Y N

-- ---- totals of both

sum_in-append : (pick : GroupCost → ℤ) (xs ys : List GroupCost) (g : List (List ℕ)) → sum_in pick (xs ++ ys) g ≡ sum_in pick xs g +ℤ sum_in pick ys g
sum_in-append pick [] ys g = sym (ap (λ z. z +ℤ sum_in pick ys g) (sum_in-nothing pick g) ∙ zero_plus (sum_in pick ys g))
sum_in-append pick (c ∷ xs) ys g =
    let rest = sum_in-append pick xs ys g in
    rw (sum_in-cons pick c (xs ++ ys) g, sum_in-cons pick c xs g, rest) (omega (arith, ints))

pub totals_of_both : (held failed whole a b all : List GroupCost) → ((g : List (List ℕ)) → list_any (is_same g) (groups_of whole) ≡ (list_any (is_same g) (groups_of held) || list_any (is_same g) (groups_of failed)))
    → ((pick : GroupCost → ℤ) (g : List (List ℕ)) → sum_in pick whole g ≡ sum_in pick held g +ℤ sum_in pick failed g)
    → AreTotals held a → AreTotals failed b → AreTotals whole all → AreTotals (a ++ b) all
totals_of_both held failed whole a b all any sums are_held are_failed are = record {
  groups = are.groups;
  are_groups = record {
    rising = are.are_groups.rising;
    each = λ g.
        let there = is_member-Decides is_same-Decides (groups_of whole) g in
        let here = is_member-Decides is_same-Decides (groups_of (a ++ b)) g in
        (λ h. here.0 (same g ∙ there.1 ((are.are_groups.each g).0 h)), λ h. (are.are_groups.each g).1 (there.0 (sym (same g) ∙ here.1 h)));
  };
  totals_are = are.totals_are ∙ same_totals whole (a ++ b) are.groups (λ g. λ j. record { group = g; billed = sum (λ c. c.billed) (λ c. refl) (λ costs h. refl) g j; effective = sum (λ c. c.effective) (λ c. refl) (λ costs h. refl) g j; amount = sum (λ c. c.amount) (λ c. refl) (λ costs h. refl) g j });
}
  where
    same : (g : List (List ℕ)) → list_any (is_same g) (groups_of (a ++ b)) ≡ list_any (is_same g) (groups_of whole)
    same g =
        ap (list_any (is_same g)) (map-append (λ c. c.group) a b) ∙ list_any-append (is_same g) (groups_of a) (groups_of b)
        ∙ (λ j. totals_have held a are_held (is_same g) j || totals_have failed b are_failed (is_same g) j) ∙ sym (any g)

    sum : (pick : GroupCost → ℤ) → ((c : GroupCost) → pick (record { group = c.group; billed = c.billed; effective = c.effective; amount = c.amount }) ≡ pick c) → ((costs : List GroupCost) (h : List (List ℕ)) → pick (total_of costs h) ≡ sum_in pick costs h)
        → (g : List (List ℕ)) → sum_in pick whole g ≡ sum_in pick (a ++ b) g
    sum pick keeps is g =
        sums pick g ∙ (λ j. sym (totals_sum pick keeps held a (is held) are_held g) j +ℤ sym (totals_sum pick keeps failed b (is failed) are_failed g) j) ∙ sym (sum_in-append pick a b g)

-- a selector with a filter, one with its opposite, and one without either
pub split : (held failed s : Selector) (lines : List LineValue) (a b all : List GroupCost) → AreSplit held failed s → AreTotals (costs_of held lines) a → AreTotals (costs_of failed lines) b → AreTotals (costs_of s lines) all → AreTotals (a ++ b) all
split held failed s lines a b all is are_held are_failed are =
    totals_of_both (map (line_cost s) (filter (is_taken held) lines)) (map (line_cost s) (filter (is_taken failed) lines)) (costs_of s lines) a b all
    (λ g. split_any (line_cost s) (is_taken s) (is_taken held) (is_taken failed) (fails is.one) takes_yes takes_no (is_same g) lines)
    (λ pick g. split_sum (line_cost s) (is_taken s) (is_taken held) (is_taken failed) (fails is.one) takes_yes takes_no pick lines g)
    (subst (λ c. AreTotals c a) (λ i. map (λ line. record { group = group_by (is.yes_keys i) line; billed = line.billed; effective = line.effective; amount = pos 0 }) (filter (is_taken held) lines)) are_held)
    (subst (λ c. AreTotals c b) (λ i. map (λ line. record { group = group_by (is.no_keys i) line; billed = line.billed; effective = line.effective; amount = pos 0 }) (filter (is_taken failed) lines)) are_failed)
    are
  where
    takes_yes : (line : LineValue) → is_taken held line ≡ (is_taken s line && not (fails is.one line))
    takes_yes line = ap (λ fs. passes fs line) is.yes_filters ∙ passes_more s.filters.now is.one line

    takes_no : (line : LineValue) → is_taken failed line ≡ (is_taken s line && not (not (fails is.one line)))
    takes_no line = ap (λ fs. passes fs line) is.no_filters ∙ passes_more s.filters.now is.other line ∙ ap (λ z. is_taken s line && not z) (fails_opposite is.one is.other line is.opposite)
