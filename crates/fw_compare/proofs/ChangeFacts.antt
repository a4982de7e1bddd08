-- What the lines of a comparison sum to.
use Rattle.std.proofs.Common.{◌≡◌, ◌∙◌, ℤ, pos, ◌+ℤ◌, ◌-ℤ◌, Bool, true, false, cond, List, [], ◌∷◌, map, refl, ap, arith}
use Rattle.std.proofs.lemmas.Int.{ints}
use Rattle.std.specs.Cmp.Lexicographic.{slice_cmp}
use Rattle.std.specs.Ordering.{is_eq, is_lt, nat_cmp}
use Rattle.fw_compare.specs.Comparison.{LineValue, afters, befores, changes, compared, in_both, in_first, in_second}
use Rattle.fw_compare.specs.Costs.{less, none, sums_of, total}
use Rattle.fw_compare.specs.Groups.{GroupValue, costs_of}
use Rattle.fw_compare.specs.declared.costs.Costs.{Costs}
use Rattle.fw_compare.proofs.SumFacts.{same_costs, total_cons}

-- of each cost that is 0 where there are none, and whose difference is that of the two
module _ (amount : Costs → ℤ) (zero : amount none ≡ pos 0) (differs : (a b : Costs) → amount (less a b) ≡ amount a -ℤ amount b) where
  abbrev pub sum : List Costs → ℤ
  sum costs = total (map amount costs)

  sum_cons : (c : Costs) (cs : List Costs) → sum (c ∷ cs) ≡ amount c +ℤ sum cs
  sum_cons c cs = total_cons (amount c) (map amount cs)

  none_before : (ys : List GroupValue) → sum (befores (map in_second ys)) ≡ pos 0
  none_before [] = refl
  none_before (a ∷ ys) =
      let one = sum_cons none (befores (map in_second ys)) in
      let rest = none_before ys in
      omega (arith, ints, zero)

  all_after : (ys : List GroupValue) → sum (afters (map in_second ys)) ≡ sum (costs_of ys)
  all_after [] = refl
  all_after (a ∷ ys) =
      let one = sum_cons a.costs (afters (map in_second ys)) in
      let other = sum_cons a.costs (costs_of ys) in
      let rest = all_after ys in
      omega (arith, ints)

  -- a line's difference is what it cost after less what it cost before
  abbrev differ : List LineValue → Type 0
  differ ls = sum (changes ls) ≡ sum (afters ls) -ℤ sum (befores ls)

  differ_cons : (l : LineValue) (ls : List LineValue) → l.change ≡ less l.after l.before → differ ls → differ (l ∷ ls)
  differ_cons l ls is rest =
      let one = sum_cons l.change (changes ls) in
      let two = sum_cons l.after (afters ls) in
      let three = sum_cons l.before (befores ls) in
      let change : amount l.change ≡ amount l.after -ℤ amount l.before = ap amount is ∙ differs l.after l.before in
      omega (arith, ints)

  differ_second : (ys : List GroupValue) → differ (map in_second ys)
  differ_second [] = omega (arith, ints)
  differ_second (a ∷ ys) = differ_cons (in_second a) (map in_second ys) refl (differ_second ys)

  pub before_sum : (bs ys : List GroupValue) → sum (befores (compared bs ys)) ≡ sum (costs_of bs)
  unfolding compared
  before_sum [] ys = none_before ys
  before_sum (b ∷ bs) [] =
      let one = sum_cons b.costs (befores (compared bs [])) in
      let other = sum_cons b.costs (costs_of bs) in
      let rest = before_sum bs [] in
      omega (arith, ints)
  before_sum (b ∷ bs) (a ∷ ys) =
      by (is_lt (slice_cmp nat_cmp b.name a.name)) (is_eq (slice_cmp nat_cmp b.name a.name)) (before_sum bs (a ∷ ys)) (before_sum bs ys) (before_sum (b ∷ bs) ys)
    where
      by : (lower same : Bool) → sum (befores (compared bs (a ∷ ys))) ≡ sum (costs_of bs) → sum (befores (compared bs ys)) ≡ sum (costs_of bs)
          → sum (befores (compared (b ∷ bs) ys)) ≡ sum (costs_of (b ∷ bs))
          → sum (befores (cond lower (in_first b ∷ compared bs (a ∷ ys)) (cond same (in_both b a ∷ compared bs ys) (in_second a ∷ compared (b ∷ bs) ys))))
          ≡ sum (costs_of (b ∷ bs))
      by true same h1 h2 h3 =
          let one = sum_cons b.costs (befores (compared bs (a ∷ ys))) in
          let other = sum_cons b.costs (costs_of bs) in
          omega (arith, ints, h1)
      by false true h1 h2 h3 =
          let one = sum_cons b.costs (befores (compared bs ys)) in
          let other = sum_cons b.costs (costs_of bs) in
          omega (arith, ints, h2)
      by false false h1 h2 h3 =
          let one = sum_cons none (befores (compared (b ∷ bs) ys)) in
          omega (arith, ints, zero, h3)

  pub after_sum : (bs ys : List GroupValue) → sum (afters (compared bs ys)) ≡ sum (costs_of ys)
  unfolding compared
  after_sum [] ys = all_after ys
  after_sum (b ∷ bs) [] =
      let one = sum_cons none (afters (compared bs [])) in
      let rest = after_sum bs [] in
      omega (arith, ints, zero)
  after_sum (b ∷ bs) (a ∷ ys) =
      by (is_lt (slice_cmp nat_cmp b.name a.name)) (is_eq (slice_cmp nat_cmp b.name a.name)) (after_sum bs (a ∷ ys)) (after_sum bs ys) (after_sum (b ∷ bs) ys)
    where
      by : (lower same : Bool) → sum (afters (compared bs (a ∷ ys))) ≡ sum (costs_of (a ∷ ys)) → sum (afters (compared bs ys)) ≡ sum (costs_of ys)
          → sum (afters (compared (b ∷ bs) ys)) ≡ sum (costs_of ys)
          → sum (afters (cond lower (in_first b ∷ compared bs (a ∷ ys)) (cond same (in_both b a ∷ compared bs ys) (in_second a ∷ compared (b ∷ bs) ys))))
          ≡ sum (costs_of (a ∷ ys))
      by true same h1 h2 h3 =
          let one = sum_cons none (afters (compared bs (a ∷ ys))) in
          omega (arith, ints, zero, h1)
      by false true h1 h2 h3 =
          let one = sum_cons a.costs (afters (compared bs ys)) in
          let other = sum_cons a.costs (costs_of ys) in
          omega (arith, ints, h2)
      by false false h1 h2 h3 =
          let one = sum_cons a.costs (afters (compared (b ∷ bs) ys)) in
          let other = sum_cons a.costs (costs_of ys) in
          omega (arith, ints, h3)

  differ_all : (bs ys : List GroupValue) → differ (compared bs ys)
  unfolding compared
  differ_all [] ys = differ_second ys
  differ_all (b ∷ bs) [] = differ_cons (in_first b) (compared bs []) refl (differ_all bs [])
  differ_all (b ∷ bs) (a ∷ ys) =
      by (is_lt (slice_cmp nat_cmp b.name a.name)) (is_eq (slice_cmp nat_cmp b.name a.name)) (differ_all bs (a ∷ ys)) (differ_all bs ys) (differ_all (b ∷ bs) ys)
    where
      by : (lower same : Bool) → differ (compared bs (a ∷ ys)) → differ (compared bs ys) → differ (compared (b ∷ bs) ys)
          → differ (cond lower (in_first b ∷ compared bs (a ∷ ys)) (cond same (in_both b a ∷ compared bs ys) (in_second a ∷ compared (b ∷ bs) ys)))
      by true same h1 h2 h3 = differ_cons (in_first b) (compared bs (a ∷ ys)) refl h1
      by false true h1 h2 h3 = differ_cons (in_both b a) (compared bs ys) refl h2
      by false false h1 h2 h3 = differ_cons (in_second a) (compared (b ∷ bs) ys) refl h3

  pub change_sum : (bs ys : List GroupValue) → sum (changes (compared bs ys)) ≡ sum (costs_of ys) -ℤ sum (costs_of bs)
  change_sum bs ys =
      let all = differ_all bs ys in
      let before = before_sum bs ys in
      let after = after_sum bs ys in
      omega (arith, ints)

pub befores_sum : (bs ys : List GroupValue) → sums_of (befores (compared bs ys)) ≡ sums_of (costs_of bs)
befores_sum bs ys = same_costs _ _ _ _ _ _
    (before_sum (λ c. c.billed) refl (λ a b. refl) bs ys)
    (before_sum (λ c. c.effective) refl (λ a b. refl) bs ys)
    (before_sum (λ c. c.charged) refl (λ a b. refl) bs ys)

pub afters_sum : (bs ys : List GroupValue) → sums_of (afters (compared bs ys)) ≡ sums_of (costs_of ys)
afters_sum bs ys = same_costs _ _ _ _ _ _
    (after_sum (λ c. c.billed) refl (λ a b. refl) bs ys)
    (after_sum (λ c. c.effective) refl (λ a b. refl) bs ys)
    (after_sum (λ c. c.charged) refl (λ a b. refl) bs ys)

pub changes_sum : (bs ys : List GroupValue) → sums_of (changes (compared bs ys)) ≡ less (sums_of (costs_of ys)) (sums_of (costs_of bs))
changes_sum bs ys = same_costs _ _ _ _ _ _
    (change_sum (λ c. c.billed) refl (λ a b. refl) bs ys)
    (change_sum (λ c. c.effective) refl (λ a b. refl) bs ys)
    (change_sum (λ c. c.charged) refl (λ a b. refl) bs ys)
