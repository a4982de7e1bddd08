-- Each row of a range of hours is accounted for.
use Rattle.std.proofs.Common.{◌≡◌, ℕ, zero, suc, ◌+◌, ◌-◌, ◌≤◌, ◌==◌, true, false, ◌&&◌, nat_le, nat_lt, List, [], ◌∷◌, ◌++◌, filter, refl, ap, arith}
use Rattle.std.specs.List.{AllZip, flat_map, range_with_len}
use Rattle.std.specs.List.Sorted.{IsPermutation}
use Rattle.std.proofs.lemmas.Bool.Decides.{nat_tests}
use Rattle.std.proofs.lemmas.List.Sorted.{IsPermutation-append_right, IsPermutation-refl, IsPermutation-trans}
use Rattle.fw_charge.specs.Charge.{Charge, hour_of}
use Rattle.fw_terms.specs.Commitment.{CommitmentValue}
use Rattle.fw_cover.specs.Eligible.{is_of_hour}
use Rattle.fw_amortise.specs.LineValue.{LineValue}
use Rattle.fw_amortise.specs.Lines.{AreLines, rows_in}
use Rattle.fw_amortise.proofs.Accounting.{hour_accounted}
use Rattle.fw_entry.specs.Entry.{EntryValue}
use Rattle.fw_snapshot.specs.History.{commitments_of, rows_of}
use Rattle.fw_sums.proofs.FilterFacts.{either_passes}
use Rattle.fw_query.specs.Accounted.{AccountFor, AreAccountedBetween, rows_between}
use Rattle.fw_query.specs.OfHistory.{AreLinesOf}

-- ---- the rows of all the hours are those of the range
hours_rows : (rows : List Charge) (n from to : ℕ) → to ≡ from + n → IsPermutation (flat_map (λ hour. rows_in hour rows) (range_with_len from n)) (rows_between from to rows)
unfolding rows_in is_of_hour
hours_rows rows zero from to end = rw (none rows) (IsPermutation-refl [])
  where
    none : (xs : List Charge) → rows_between from to xs ≡ []
    none [] = refl
    none (x ∷ xs) =
        let out : (nat_le from (hour_of x.start) && nat_lt (hour_of x.start) to) ≡ false = grind (arith, nat_tests) in
        rw out (none xs)
hours_rows rows (suc n) from to end =
    let later : IsPermutation (flat_map (λ hour. rows_in hour rows) (range_with_len (from + 1) n)) (rows_between (from + 1) to rows) = hours_rows rows n (from + 1) to (omega arith) in
    IsPermutation-trans (filter (is_of_hour from) rows ++ flat_map (λ hour. rows_in hour rows) (range_with_len (from + 1) n)) (filter (is_of_hour from) rows ++ rows_between (from + 1) to rows) (rows_between from to rows)
    (IsPermutation-append_right (filter (is_of_hour from) rows) (flat_map (λ hour. rows_in hour rows) (range_with_len (from + 1) n)) (rows_between (from + 1) to rows) later)
    (either_passes (is_of_hour from) (λ row. nat_le (from + 1) (hour_of row.start) && nat_lt (hour_of row.start) to) (λ row. nat_le from (hour_of row.start) && nat_lt (hour_of row.start) to)
    (λ row here. first (hour_of row.start) here)
    (λ row apart. others (hour_of row.start) apart)
    rows)
  where
    same : (h : ℕ) → (h == from) ≡ false → nat_le from h ≡ nat_le (from + 1) h
    same h apart = grind (arith, nat_tests)

    first : (h : ℕ) → (h == from) ≡ true → ((nat_le (from + 1) h && nat_lt h to) ≡ false) × ((nat_le from h && nat_lt h to) ≡ true)
    first h here = (grind (arith, nat_tests), grind (arith, nat_tests))

    others : (h : ℕ) → (h == from) ≡ false → (nat_le from h && nat_lt h to) ≡ (nat_le (from + 1) h && nat_lt h to)
    others h apart = ap (λ b. b && nat_lt h to) (same h apart)

-- ---- each hour's lines account for its rows
hours_account : (cs : List CommitmentValue) (rows : List Charge) (hours : List ℕ) (hourly : List (List LineValue)) → AllZip (AreLines cs rows) hours hourly → AllZip (AccountFor cs rows) hours hourly
unfolding AreLines
hours_account cs rows [] [] are = tt
hours_account cs rows [] (lines ∷ hourly) are = absurd are
hours_account cs rows (hour ∷ hours) [] are = absurd are
hours_account cs rows (hour ∷ hours) (lines ∷ hourly) are = (hour_accounted cs (rows_in hour rows) hour lines are.0, hours_account cs rows hours hourly are.1)

pub lines_account : (history : List EntryValue) (from to : ℕ) (lines : List LineValue) → from ≤ to → AreLinesOf history from to lines → AreAccountedBetween (commitments_of history) (rows_of history) from to lines
lines_account history from to lines some are = record {
  hourly = are.hourly;
  lines_are = are.lines_are;
  each = hours_account (commitments_of history) (rows_of history) (range_with_len from (to - from)) are.hourly are.are_hourly;
  rows_are = hours_rows (rows_of history) (to - from) from to (omega arith);
}
