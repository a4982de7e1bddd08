-- What is shown sums to all lines.
use Rattle.std.proofs.Common.{◌≡◌, ◌∙◌, ℕ, ℤ, ◌+ℤ◌, Bool, true, false, cond, nat_lt, length, List, [], ◌∷◌, ◌++◌, map, take, drop, Option, None, Some, sym, ap, arith}
use Rattle.std.proofs.lemmas.Int.{ints}
use Rattle.std.proofs.lemmas.List.{map-append, take-append-drop}
use Rattle.fw_compare.specs.Comparison.{LineValue, afters, befores}
use Rattle.fw_compare.specs.Costs.{sums_of, total}
use Rattle.fw_compare.specs.Shown.{AreFirst, AreShown}
use Rattle.fw_compare.specs.declared.costs.Costs.{Costs}
use Rattle.fw_compare.proofs.SumFacts.{same_costs, total_append, total_push}

module _ (side : LineValue → Costs) (amount : Costs → ℤ) where
  abbrev pub sum : List LineValue → ℤ
  sum lines = total (map amount (map side lines))

  sum_append : (xs ys : List LineValue) → sum (xs ++ ys) ≡ sum xs +ℤ sum ys
  sum_append xs ys =
      ap (λ l. total (map amount l)) (map-append side xs ys)
      ∙ ap total (map-append amount (map side xs) (map side ys))
      ∙ total_append (map amount (map side xs)) (map amount (map side ys))

  pub first_sum : (count : ℕ) (lines : List LineValue) (others : LineValue) → amount (side others) ≡ sum (drop count lines) → sum (take count lines ++ others ∷ []) ≡ sum lines
  first_sum count lines others is =
      let front = sum_append (take count lines) (others ∷ []) in
      let one : sum (others ∷ []) ≡ amount (side others) = total_push [] (amount (side others)) ∙ omega (arith, ints) in
      let whole : sum lines ≡ sum (take count lines) +ℤ sum (drop count lines) = ap sum (sym (take-append-drop count lines)) ∙ sum_append (take count lines) (drop count lines) in
      omega (arith, ints, is)

firsts : (side : LineValue → Costs) (count : ℕ) (lines : List LineValue) (others : LineValue) → side others ≡ sums_of (map side (drop count lines))
    → sums_of (map side (take count lines ++ others ∷ [])) ≡ sums_of (map side lines)
firsts side count lines others is = same_costs _ _ _ _ _ _
    (first_sum side (λ c. c.billed) count lines others (ap (λ c. c.billed) is))
    (first_sum side (λ c. c.effective) count lines others (ap (λ c. c.effective) is))
    (first_sum side (λ c. c.charged) count lines others (ap (λ c. c.charged) is))

pub shown_before : (top : Option ℕ) (lines shown : List LineValue) → AreShown top lines shown → sums_of (befores shown) ≡ sums_of (befores lines)
shown_before None lines shown are = ap (λ l. sums_of (befores l)) are
shown_before (Some count) lines shown are = by (nat_lt count (length lines)) are
  where
    by : (b : Bool) → cond b (AreFirst count lines shown) (shown ≡ lines) → sums_of (befores shown) ≡ sums_of (befores lines)
    by true is = ap (λ l. sums_of (befores l)) is.shown_are ∙ firsts (λ l. l.before) count lines is.others is.is_total.before
    by false is = ap (λ l. sums_of (befores l)) is

pub shown_after : (top : Option ℕ) (lines shown : List LineValue) → AreShown top lines shown → sums_of (afters shown) ≡ sums_of (afters lines)
shown_after None lines shown are = ap (λ l. sums_of (afters l)) are
shown_after (Some count) lines shown are = by (nat_lt count (length lines)) are
  where
    by : (b : Bool) → cond b (AreFirst count lines shown) (shown ≡ lines) → sums_of (afters shown) ≡ sums_of (afters lines)
    by true is = ap (λ l. sums_of (afters l)) is.shown_are ∙ firsts (λ l. l.after) count lines is.others is.is_total.after
    by false is = ap (λ l. sums_of (afters l)) is
