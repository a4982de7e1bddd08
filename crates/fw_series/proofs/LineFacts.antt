-- The sums of lines, and the sums of all groups.
use Rattle.std.proofs.Common.{◌≡◌, ◌∙◌, ℤ, ◌+ℤ◌, Bool, true, false, not, cond, List, [], ◌∷◌, ◌++◌, map, filter, refl, sym, ap, arith}
use Rattle.std.proofs.lemmas.Int.{ints}
use Rattle.std.proofs.lemmas.List.{map-append}
use Rattle.fw_allocate.specs.Costs.{total}
use Rattle.fw_allocate.proofs.Totals.{total_cons}
use Rattle.fw_query.specs.Reports.{EntryValue}
use Rattle.fw_series.specs.Lines.{AreLines, AreOthers, LineValue, Names, group_line, is_kept, is_left, is_shown, kept, others_line}
use Rattle.fw_series.specs.Sums.{AreSums}
use Rattle.fw_series.specs.declared.sums.Sums.{Sums}

pub total_append : (xs ys : List ℤ) → total (xs ++ ys) ≡ total xs +ℤ total ys
total_append [] ys = omega (arith, ints)
total_append (x ∷ xs) ys =
    let rest = total_append xs ys in
    let whole = total_cons x (xs ++ ys) in
    let front = total_cons x xs in
    omega (arith, ints)

total_one : (x : ℤ) → total (x ∷ []) ≡ x
total_one x = let e = total_cons x [] in omega (arith, ints)

-- what a line shows is what its group has
module _ (shown : LineValue → ℤ) (amount : EntryValue → ℤ) (same : (e : EntryValue) → shown (group_line e) ≡ amount e) where
  lines_total : (es : List EntryValue) → total (map shown (map group_line es)) ≡ total (map amount es)
  lines_total [] = refl
  lines_total (e ∷ es) =
      total_cons (shown (group_line e)) (map shown (map group_line es)) ∙ ap (λ z. z +ℤ total (map shown (map group_line es))) (same e)
      ∙ ap (λ z. amount e +ℤ z) (lines_total es) ∙ sym (total_cons (amount e) (map amount es))

  split_total : (names : Names) (es : List EntryValue) → total (map amount es) ≡ total (map amount (filter (is_kept names) es)) +ℤ total (map amount (filter (is_left names) es))
  split_total names [] = refl
  split_total names (e ∷ es) = by (is_shown names e.group) (split_total names es)
    where
      by : (b : Bool) → total (map amount es) ≡ total (map amount (filter (is_kept names) es)) +ℤ total (map amount (filter (is_left names) es))
          → total (map amount (e ∷ es)) ≡ total (map amount (cond b (e ∷ filter (is_kept names) es) (filter (is_kept names) es))) +ℤ total (map amount (cond (not b) (e ∷ filter (is_left names) es) (filter (is_left names) es)))
      by true rest =
          let whole = total_cons (amount e) (map amount es) in
          let here = total_cons (amount e) (map amount (filter (is_kept names) es)) in
          omega (arith, ints)
      by false rest =
          let whole = total_cons (amount e) (map amount es) in
          let here = total_cons (amount e) (map amount (filter (is_left names) es)) in
          omega (arith, ints)

  others_total : (rest : List EntryValue) (others : List LineValue) → AreOthers rest others → ((sums : Sums) → AreSums rest sums → shown (others_line sums) ≡ total (map amount rest))
      → total (map shown others) ≡ total (map amount rest)
  others_total [] others are sums = ap (λ l. total (map shown l)) are
  others_total (e ∷ es) others are sums = ap (λ l. total (map shown l)) are.2 ∙ total_one (shown (others_line are.0)) ∙ sums are.0 are.1

  pub all_total : (names : Names) (es : List EntryValue) (lines : List LineValue) → AreLines names es lines → ((rest : List EntryValue) (sums : Sums) → AreSums rest sums → shown (others_line sums) ≡ total (map amount rest))
      → total (map shown lines) ≡ total (map amount es)
  all_total names es lines are sums =
      ap (λ l. total (map shown l)) are.lines_are
      ∙ ap total (map-append shown (kept names es) are.others)
      ∙ total_append (map shown (kept names es)) (map shown are.others)
      ∙ ap (λ z. z +ℤ total (map shown are.others)) (lines_total (filter (is_kept names) es))
      ∙ ap (λ z. total (map amount (filter (is_kept names) es)) +ℤ z) (others_total (filter (is_left names) es) are.others are.others_are (λ s a. sums (filter (is_left names) es) s a))
      ∙ sym (split_total names es)
