-- Lemmas on lines at prices and amounts, hour by hour.
use Rattle.std.proofs.Common.{◌≡◌, ◌∙◌, ℕ, ◌+◌, List, [], ◌∷◌, ◌++◌, None, Some, ap, append-nil, append_assoc, arith, filter, length, map, refl, subst, sym}
use Rattle.std.specs.Prelude.{Option, option_copied}
use Rattle.std.specs.List.{flat_map}
use Rattle.std.proofs.lemmas.List.{map-append}
use Rattle.std.proofs.lemmas.List.Elements.{filter-append}
use Rattle.fw_charge.specs.Charge.{Charge}
use Rattle.fw_terms.specs.Commitment.{CommitmentValue}
use Rattle.fw_cover.specs.Cover.{cover_of, taken_by_all}
use Rattle.fw_cover.specs.Hour.{hour_cover}
use Rattle.fw_cover.specs.Order.{commitments_in_order, pairs_of, pairs_of_commitment}
use Rattle.fw_amortise.specs.LineValue.{LineValue}
use Rattle.fw_finops.specs.Lines.{covered_lines, open_lines, price_lines}
use Rattle.fw_finops.specs.Listed.{AreListedBy}
use Rattle.fw_select.specs.Selectors.{costs_of, is_taken, line_cost}
use Rattle.fw_select.specs.Table.{AreSums}
use Rattle.fw_select.specs.declared.counter.Counter.{Counter}
use Rattle.fw_select.specs.declared.selector.Selector.{Selector}
use Rattle.fw_figures.specs.Prices.{AreLinesByHour, AreCounted, CountsHour, HasCounted}
use Rattle.fw_figures.specs.declared.prices.Counted.{Counted}
use Rattle.fw_figures.specs.declared.prices.Counted.TheVariants as counted

-- ---- no rows
no_pairs : (hour : ℕ) (cs : List (ℕ × CommitmentValue)) → flat_map (pairs_of_commitment hour []) cs ≡ []
unfolding pairs_of_commitment
no_pairs hour [] = refl
no_pairs hour (c ∷ cs) = no_pairs hour cs

no_cover : (cs : List CommitmentValue) (hour : ℕ) → hour_cover cs [] hour ≡ []
unfolding hour_cover cover_of taken_by_all pairs_of
no_cover cs hour = rw (no_pairs hour (commitments_in_order cs)) refl

-- an hour without rows has no line
no_prices : (cs : List CommitmentValue) (hour : ℕ) → price_lines cs [] hour ≡ []
unfolding price_lines covered_lines open_lines
no_prices cs hour = rw (no_cover cs hour) refl

none_listed : (tag : Option (List ℕ)) (hour : ℕ) → AreListedBy tag hour [] []
none_listed None hour = refl
none_listed (Some tag) hour = tt

pub none_counted : (of : Counted) (cs : List CommitmentValue) (hour : ℕ) → AreCounted of cs [] hour []
none_counted (counted.AtPrices tag) cs hour = record {
  listed = [];
  are_listed = none_listed (option_copied tag) hour;
  lines_are = sym (append-nil (price_lines cs [] hour) ∙ no_prices cs hour);
}
none_counted (counted.AtAmounts tag) cs hour = tt

pub counts_none : (counter : Counter) (before : List LineValue) (s : Selector) (of : Counted) (cs : List CommitmentValue) (rows : List Charge) (hour : ℕ) → rows ≡ []
    → AreSums counter.table (costs_of s before) → CountsHour counter before s (AreCounted of cs) rows hour
counts_none counter before s of cs rows hour none sums = record {
  lines = [];
  are_lines = subst (λ them. AreCounted of cs them hour []) (sym none) (none_counted of cs hour);
  sums = subst (λ l. AreSums counter.table (costs_of s l)) (sym (append-nil before)) sums;
}

-- ---- hours in turn
by_hour_more : (Are : List Charge → ℕ → List LineValue → Type 0) (from hour : ℕ) (by_hour : List (List Charge)) (rows : List Charge) (lines more : List LineValue) → hour ≡ from + length by_hour
    → AreLinesByHour Are from by_hour lines → Are rows hour more → AreLinesByHour Are from (by_hour ++ rows ∷ []) (lines ++ more)
by_hour_more Are from hour [] rows lines more at are added =
    let same : hour ≡ from = omega (arith, at) in
    record {
      first = more;
      behind = [];
      are_first = subst (λ h. Are rows h more) same added;
      are_behind = refl;
      lines_are = ap (λ l. l ++ more) are ∙ sym (append-nil more);
    }
by_hour_more Are from hour (first ∷ by_hour) rows lines more at are added = record {
  first = are.first;
  behind = are.behind ++ more;
  are_first = are.are_first;
  are_behind = by_hour_more Are (from + 1) hour by_hour rows are.behind more (omega (arith, at)) are.are_behind added;
  lines_are = ap (λ l. l ++ more) are.lines_are ∙ append_assoc are.first are.behind more;
}

-- one more hour is counted
pub HasCounted-more : (old new : Counter) (s : Selector) (Are : List Charge → ℕ → List LineValue → Type 0) (from hour : ℕ) (by_hour : List (List Charge)) (rows : List Charge) → hour ≡ from + length by_hour
    → (counted : HasCounted old s Are from by_hour) → CountsHour new counted.lines s Are rows hour → HasCounted new s Are from (by_hour ++ rows ∷ [])
HasCounted-more old new s Are from hour by_hour rows at counted more = record {
  lines = counted.lines ++ more.lines;
  are_lines = by_hour_more Are from hour by_hour rows counted.lines more.lines at counted.are_lines more.are_lines;
  sums = more.sums;
}

-- what lines bring after others
pub costs_of-append : (s : Selector) (xs ys : List LineValue) → costs_of s (xs ++ ys) ≡ costs_of s xs ++ costs_of s ys
costs_of-append s xs ys = ap (map (line_cost s)) (filter-append (is_taken s) xs ys) ∙ map-append (line_cost s) (filter (is_taken s) xs) (filter (is_taken s) ys)
