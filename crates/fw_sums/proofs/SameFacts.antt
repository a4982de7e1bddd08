-- Lists of costs that bring the same to every group.
use Rattle.std.proofs.Common.{◌≡◌, ◌∙◌, ℕ, ◌*◌, ◌≤◌, ℤ, ◌+ℤ◌, ◌||◌, List, ◌++◌, nat_abs, ap, subst}
use Rattle.std.specs.List.{list_any}
use Rattle.std.specs.Str.{bytes_eq}
use Rattle.std.proofs.lemmas.List.{map-append}
use Rattle.std.proofs.lemmas.List.Folds.{list_any-append}
use Rattle.fw_money.specs.Amount.{most_nanos}
use Rattle.fw_amortise.specs.LineValue.{LineValue}
use Rattle.fw_sums.specs.Costs.{Cost, costs_of, groups_of, line_cost, sum_in}
use Rattle.fw_sums.specs.Sums.{Counts, sums_of}
use Rattle.fw_sums.specs.declared.groups.Groups.{Groups}
use Rattle.fw_sums.proofs.CodeSumFacts.{sum_behind}
use Rattle.fw_sums.proofs.SumFacts.{sums_when}

-- the same groups have a cost, and the costs in each sum to the same
pub record BringSame (xs ys : List Cost) : Type 0 where
  pub there : (g : List ℕ) → list_any (bytes_eq g) (groups_of xs) ≡ list_any (bytes_eq g) (groups_of ys)
  pub billed : (g : List ℕ) → sum_in (λ c. c.billed) xs g ≡ sum_in (λ c. c.billed) ys g
  pub effective : (g : List ℕ) → sum_in (λ c. c.effective) xs g ≡ sum_in (λ c. c.effective) ys g

-- so where the ones were counted, the others were
pub Counts-same : (groups : Groups) (xs ys : List Cost) → BringSame xs ys → Counts groups xs → Counts groups ys
unfolding sums_of
Counts-same groups xs ys same counts = record {
  are_sums = record { sums = λ g. counts.are_sums.sums g ∙ (λ j. sums_when (same.there g j) (same.billed g j) (same.effective g j)) };
  small = record {
    billed = λ g. subst (λ z. nat_abs z ≤ most_nanos * groups.lines) (same.billed g) (counts.small.billed g);
    effective = λ g. subst (λ z. nat_abs z ≤ most_nanos * groups.lines) (same.effective g) (counts.small.effective g);
  };
}

-- ---- the costs of two lists, one behind the other

pub sum_in-append : (amount : Cost → ℤ) (xs ys : List Cost) (g : List ℕ) → sum_in amount (xs ++ ys) g ≡ sum_in amount xs g +ℤ sum_in amount ys g
unfolding sum_in
sum_in-append amount xs ys g = sum_behind amount xs ys g

pub there-append : (xs ys : List Cost) (g : List ℕ) → list_any (bytes_eq g) (groups_of (xs ++ ys)) ≡ (list_any (bytes_eq g) (groups_of xs) || list_any (bytes_eq g) (groups_of ys))
there-append xs ys g = ap (list_any (bytes_eq g)) (map-append (λ (c : Cost). c.group) xs ys) ∙ list_any-append (bytes_eq g) (groups_of xs) (groups_of ys)

-- likewise of lines
pub lines_sum-append : (amount : Cost → ℤ) (key : List ℕ) (xs ys : List LineValue) (g : List ℕ) → sum_in amount (costs_of key (xs ++ ys)) g ≡ sum_in amount (costs_of key xs) g +ℤ sum_in amount (costs_of key ys) g
lines_sum-append amount key xs ys g = ap (λ l. sum_in amount l g) (map-append (line_cost key) xs ys) ∙ sum_in-append amount (costs_of key xs) (costs_of key ys) g

pub lines_there-append : (key : List ℕ) (xs ys : List LineValue) (g : List ℕ)
    → list_any (bytes_eq g) (groups_of (costs_of key (xs ++ ys))) ≡ (list_any (bytes_eq g) (groups_of (costs_of key xs)) || list_any (bytes_eq g) (groups_of (costs_of key ys)))
lines_there-append key xs ys g = ap (λ l. list_any (bytes_eq g) (groups_of l)) (map-append (line_cost key) xs ys) ∙ there-append (costs_of key xs) (costs_of key ys) g
