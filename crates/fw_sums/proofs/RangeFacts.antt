-- Lemmas on the lines of hours in turn.
use Rattle.std.proofs.Common.{◌≡◌, ◌∙◌, ℕ, zero, suc, ◌+◌, ◌-◌, List, [], ◌∷◌, ◌++◌, length, map, sym, ap, refl, arith, append-nil, append_assoc}
use Rattle.std.proofs.lemmas.Grind.{flat_map-append}
use Rattle.std.proofs.lemmas.List.{map-append}
use Rattle.fw_charge.specs.Charge.{Charge}
use Rattle.fw_terms.specs.Commitment.{CommitmentValue}
use Rattle.fw_amortise.specs.LineValue.{LineValue}
use Rattle.std.specs.List.{range_with_len}
use Rattle.fw_amortise.specs.Lines.{AreHourLines, AreLines, rows_in}
use Rattle.fw_sums.specs.Costs.{Cost, costs_of, line_cost}
use Rattle.fw_sums.specs.RangeLines.{AreHourly, AreRangeLines, joined}
use Rattle.fw_sums.specs.Sums.{AreHourlyOf, CountsHour, CountsHours}
use Rattle.fw_sums.specs.declared.groups.Groups.{Groups}

pub hourly-more : (cs : List CommitmentValue) (from : ℕ) (by_hour : List (List Charge)) (hourly : List (List LineValue)) (rows : List Charge) (lines : List LineValue)
    → AreHourlyOf cs from by_hour hourly → AreHourLines cs rows (from + length by_hour) lines → AreHourlyOf cs from (by_hour ++ rows ∷ []) (hourly ++ lines ∷ [])
hourly-more cs from [] [] rows lines are here = let same : from + 0 ≡ from = omega arith in (rw same at here, tt)
hourly-more cs from [] (x ∷ hourly) rows lines are here = absurd are
hourly-more cs from (x ∷ by_hour) [] rows lines are here = absurd are
hourly-more cs from (x ∷ by_hour) (y ∷ hourly) rows lines are here =
    let same : from + suc (length by_hour) ≡ (from + 1) + length by_hour = omega arith in
    (are.0, hourly-more cs (from + 1) by_hour hourly rows lines are.1 (rw same at here))

-- one more hour is counted, after what came before the hours
pub CountsHours-more : (new : Groups) (before : List Cost) (key : List ℕ) (cs : List CommitmentValue) (by_hour : List (List Charge)) (hourly : List (List LineValue)) (rows : List Charge) (from hour : ℕ) → AreHourlyOf cs from by_hour hourly
    → hour ≡ from + length by_hour → CountsHour new (before ++ costs_of key (joined hourly)) key cs rows hour → CountsHours new before key cs (by_hour ++ rows ∷ []) from
CountsHours-more new before key cs by_hour hourly rows from hour are at more =
    let all : joined (hourly ++ more.lines ∷ []) ≡ joined hourly ++ more.lines =
    flat_map-append (λ lines. lines) hourly (more.lines ∷ []) ∙ ap (λ l. joined hourly ++ l) (append-nil more.lines) in
    let brought : before ++ costs_of key (joined (hourly ++ more.lines ∷ [])) ≡ (before ++ costs_of key (joined hourly)) ++ costs_of key more.lines =
    ap (λ l. before ++ l) (ap (costs_of key) all ∙ map-append (line_cost key) (joined hourly) more.lines) ∙ sym (append_assoc before (costs_of key (joined hourly)) (costs_of key more.lines)) in
    record {
      hourly = hourly ++ more.lines ∷ [];
      are_hourly = hourly-more cs from by_hour hourly rows more.lines are (rw at at more.are_lines);
      counts = rw brought more.counts;
    }

-- the lines of hours in turn are those of a range, where the rows are those of each hour
pub hourly_zip : (cs : List CommitmentValue) (rows : List Charge) (n from : ℕ) (hourly : List (List LineValue)) → AreHourlyOf cs from (map (λ h. rows_in h rows) (range_with_len from n)) hourly → AreHourly cs rows (range_with_len from n) hourly
unfolding AreLines
hourly_zip cs rows zero from [] are = tt
hourly_zip cs rows zero from (x ∷ hourly) are = absurd are
hourly_zip cs rows (suc n) from [] are = absurd are
hourly_zip cs rows (suc n) from (x ∷ hourly) are = (are.0, hourly_zip cs rows n (from + 1) hourly are.1)

pub range_lines : (groups : Groups) (key : List ℕ) (cs : List CommitmentValue) (rows : List Charge) (by_hour : List (List Charge)) (from to n : ℕ) (counted : CountsHours groups [] key cs by_hour from)
    → by_hour ≡ map (λ h. rows_in h rows) (range_with_len from n) → n ≡ to - from → AreRangeLines cs rows from to (joined counted.hourly)
range_lines groups key cs rows by_hour from to n counted each hours = record {
  hourly = counted.hourly;
  are_hourly = rw (← hours) (hourly_zip cs rows n from counted.hourly (rw each at counted.are_hourly));
  lines_are = refl;
}
