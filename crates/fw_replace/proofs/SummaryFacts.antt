-- What rows come to, row by row.
use Rattle.std.proofs.Common.{◌≡◌, ◌∙◌, ◌+◌, ◌*◌, ◌≤◌, ◌<◌, ◌^◌, ◌++◌, ◌∷◌, ◌&&◌, ◌||◌, if◌then◌else◌, [], ℕ, ℤ, List, Bool, true, false, refl, sym, ap, arith}
use Rattle.std.specs.Prelude.{◌+ℤ◌, max, min, nat_abs, pos}
use Rattle.std.specs.List.{list_all, list_any}
use Rattle.std.proofs.lemmas.Int.{ints}
use Rattle.std.proofs.lemmas.List.Folds.{list_all-append, list_any-append}
use Rattle.std.proofs.lemmas.List.Sums.{fold-append}
use Rattle.fw_charge.specs.Charge.{Charge, hour_of, last_hour}
use Rattle.fw_money.specs.Amount.{most_nanos}
use Rattle.fw_replace.specs.Summaries.{begins_in, reach_of, summary_of, summary_with}
use Rattle.fw_replace.specs.declared.summary.Reach.TheVariants as reach

pub summary_none : summary_of [] ≡ record { first_hour = last_hour; last_hour = 0; billed = pos 0 }
unfolding summary_of
summary_none = refl

-- one row more
pub summary_more : (rows : List Charge) (row : Charge) → summary_of (rows ++ row ∷ []) ≡ summary_with (summary_of rows) row
unfolding summary_of
summary_more rows row = λ j. record {
  first_hour = fold-append (λ hour c. min hour (hour_of c.start)) last_hour rows (row ∷ []) j;
  last_hour = fold-append (λ hour c. max hour (hour_of c.start)) 0 rows (row ∷ []) j;
  billed = fold-append (λ sum c. sum +ℤ c.billed) (pos 0) rows (row ∷ []) j;
}

-- a sum of amounts grows by one amount at most
pub small_more : (sum amount : ℤ) (n : ℕ) → nat_abs sum ≤ most_nanos * n → nat_abs amount ≤ most_nanos → nat_abs (sum +ℤ amount) ≤ most_nanos * (n + 1)
small_more sum amount n sum_small amount_small = omega (arith, ints)

-- there is room for one more
pub room : (sum : ℤ) (n : ℕ) → nat_abs sum ≤ most_nanos * n → n < 2 ^ 64 → nat_abs sum < 2 ^ 126
room sum n small few = omega arith

-- ---- tests

or_false : (b : Bool) → (b || false) ≡ b
or_false true = refl
or_false false = refl

and_true : (b : Bool) → (b && true) ≡ b
and_true true = refl
and_true false = refl

pub any_more : (p : Charge → Bool) (rows : List Charge) (row : Charge) → list_any p (rows ++ row ∷ []) ≡ (list_any p rows || p row)
any_more p rows row = list_any-append p rows (row ∷ []) ∙ ap (λ b. list_any p rows || b) (or_false (p row))

pub all_more : (p : Charge → Bool) (rows : List Charge) (row : Charge) → list_all p (rows ++ row ∷ []) ≡ (list_all p rows && p row)
all_more p rows row = list_all-append p rows (row ∷ []) ∙ ap (λ b. list_all p rows && b) (and_true (p row))

-- ---- where rows stand to a range

pub inside : (from to : ℕ) (rows : List Charge) → list_any (begins_in from to) rows ≡ true → list_all (begins_in from to) rows ≡ true → reach.Inside ≡ reach_of from to rows
unfolding reach_of
inside from to rows some all =
    sym (ap (λ a. if a then (if list_all (begins_in from to) rows then reach.Inside else reach.Across) else reach.Outside) some ∙ ap (λ b. if b then reach.Inside else reach.Across) all)

pub across : (from to : ℕ) (rows : List Charge) → list_any (begins_in from to) rows ≡ true → list_all (begins_in from to) rows ≡ false → reach.Across ≡ reach_of from to rows
unfolding reach_of
across from to rows some all =
    sym (ap (λ a. if a then (if list_all (begins_in from to) rows then reach.Inside else reach.Across) else reach.Outside) some ∙ ap (λ b. if b then reach.Inside else reach.Across) all)

pub outside : (from to : ℕ) (rows : List Charge) → list_any (begins_in from to) rows ≡ false → reach.Outside ≡ reach_of from to rows
unfolding reach_of
outside from to rows none =
    sym (ap (λ a. if a then (if list_all (begins_in from to) rows then reach.Inside else reach.Across) else reach.Outside) none)
