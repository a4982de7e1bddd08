-- The lines of adjacent ranges, one behind the other, are those of the whole range.
use Rattle.std.proofs.Common.{◌≡◌, ◌∙◌, ℕ, zero, suc, ◌+◌, ◌-◌, ◌≤◌, ◌<◌, length, get_or, ◌+ℤ◌, All, List, [], ◌∷◌, ◌++◌, map, refl, sym, ap, subst, arith}
use Rattle.std.proofs.lemmas.Grind.{flat_map-append}
use Rattle.std.proofs.lemmas.List.{map-append}
use Rattle.std.proofs.lemmas.List.Elements.{All-head, All-tail}
use Rattle.std.specs.List.{AllZip, range_with_len}
use Rattle.fw_allocate.specs.Costs.{total}
use Rattle.fw_allocate.proofs.Totals.{total_cons}
use Rattle.fw_amortise.specs.LineValue.{LineValue}
use Rattle.fw_amortise.specs.Lines.{AreLines}
use Rattle.fw_calendar.specs.Periods.{ArePeriods}
use Rattle.fw_calendar.specs.declared.steps.Step.{Step}
use Rattle.fw_calendar.specs.declared.steps.Period.{Period}
use Rattle.fw_charge.specs.Charge.{Charge}
use Rattle.fw_entry.specs.Entry as entry
use Rattle.fw_entry.specs.Spelling.{IsEntry}
use Rattle.fw_query.specs.OfHistory.{AreLinesOf, IsReportOn}
use Rattle.fw_query.specs.declared.fault.QueryFault.{QueryFault}
use Rattle.fw_sums.specs.RangeLines.{AreRangeLines, joined}
use Rattle.fw_query.specs.Reports.{EntryValue}
use Rattle.fw_query.proofs.DirectFacts.{billed_lines, charged_direct, direct_lines}
use Rattle.fw_snapshot.specs.History.{commitments_of, rows_of}
use Rattle.fw_terms.specs.Commitment.{CommitmentValue}
use Rattle.fw_series.specs.Series.{AreParts, IsPartRefused, IsPartReport, IsRefusedOn, billed_of_parts, charged_of_parts, direct_of_parts}
use Rattle.fw_series.specs.Sums.{billed_in, charged_in, direct_in}
use Rattle.fw_series.specs.declared.series.Part.{Part}
use Rattle.fw_series.proofs.LineFacts.{total_append}

range_append : (from m n : ℕ) → range_with_len from (m + n) ≡ range_with_len from m ++ range_with_len (from + m) n
range_append from zero n =
    let e : 0 + n ≡ n = omega arith in
    let f : from + 0 ≡ from = omega arith in
    ap (range_with_len from) e ∙ ap (λ s. range_with_len s n) (sym f)
range_append from (suc m) n =
    let e : suc m + n ≡ suc (m + n) = omega arith in
    let f : (from + 1) + m ≡ from + suc m = omega arith in
    ap (range_with_len from) e ∙ ap (λ l. from ∷ l) (range_append (from + 1) m n) ∙ ap (λ s. (from ∷ range_with_len (from + 1) m) ++ range_with_len s n) f

zip_append : {X Y : Type 0} (R : X → Y → Type 0) (xs us : List X) (ys vs : List Y) → AllZip R xs ys → AllZip R us vs → AllZip R (xs ++ us) (ys ++ vs)
zip_append R [] us [] vs a b = b
zip_append R [] us (y ∷ ys) vs a b = absurd a
zip_append R (x ∷ xs) us [] vs a b = absurd a
zip_append R (x ∷ xs) us (y ∷ ys) vs a b = (a.0, zip_append R xs us ys vs a.1 b)

lines_append : (cs : List CommitmentValue) (rows : List Charge) (from mid to : ℕ) (xs ys : List LineValue) → from ≤ mid → mid ≤ to → AreRangeLines cs rows from mid xs → AreRangeLines cs rows mid to ys
    → AreRangeLines cs rows from to (xs ++ ys)
lines_append cs rows from mid to xs ys low high a b =
    let e : to - from ≡ (mid - from) + (to - mid) = omega arith in
    let f : from + (mid - from) ≡ mid = omega arith in
    let hours : range_with_len from (to - from) ≡ range_with_len from (mid - from) ++ range_with_len mid (to - mid) =
    ap (range_with_len from) e ∙ range_append from (mid - from) (to - mid) ∙ ap (λ s. range_with_len from (mid - from) ++ range_with_len s (to - mid)) f in
    record {
      hourly = a.hourly ++ b.hourly;
      are_hourly = subst (λ hs. AllZip (AreLines cs rows) hs (a.hourly ++ b.hourly)) (sym hours)
          (zip_append (AreLines cs rows) (range_with_len from (mid - from)) (range_with_len mid (to - mid)) a.hourly b.hourly a.are_hourly b.are_hourly);
      lines_are = ap (λ l. l ++ ys) a.lines_are ∙ ap (λ l. joined a.hourly ++ l) b.lines_are ∙ sym (flat_map-append (λ lines. lines) a.hourly b.hourly);
    }

no_lines : (cs : List CommitmentValue) (rows : List Charge) (from to : ℕ) → from ≡ to → AreRangeLines cs rows from to []
no_lines cs rows from to e =
    let none : to - from ≡ 0 = omega arith in
    record { hourly = []; are_hourly = subst (λ n. AllZip (AreLines cs rows) (range_with_len from n) []) (sym none) tt; lines_are = refl }

-- the lines of a range, which are those of its parts
record HasLines (history : List entry.EntryValue) (from to : ℕ) (parts : List Part) : Type 0 where
  lines : List LineValue
  are : AreLinesOf history from to lines
  billed : total (map (λ l. l.billed) lines) ≡ billed_of_parts parts
  direct : total (map (λ l. l.effective) lines) ≡ direct_of_parts parts

parts_end : (step : Step) (from to : ℕ) (parts : List Part) → ArePeriods step from to (map (λ p. p.period) parts) → from ≤ to
parts_end step from to [] are = omega arith
parts_end step from to (part ∷ parts) are =
    let some = are.0.some in
    let within = are.0.within in
    omega arith

parts_have : (history : List entry.EntryValue) (key : List ℕ) (step : Step) (from to : ℕ) (parts : List Part) → ArePeriods step from to (map (λ p. p.period) parts) → All (IsPartReport history key) parts → HasLines history from to parts
parts_have history key step from to [] are reports = record { lines = []; are = no_lines (commitments_of history) (rows_of history) from to are; billed = refl; direct = refl }
parts_have history key step from to (part ∷ parts) are reports =
    let rest = parts_have history key step part.period.to to parts are.1 (All-tail (IsPartReport history key) part parts reports) in
    let report : IsReportOn history key from part.period.to part.report = subst (λ s. IsReportOn history key s part.period.to part.report) are.0.begins (All-head (IsPartReport history key) part parts reports) in
    let some = are.0.some in
    let later : part.period.to ≤ to = are.0.within in
    record {
      lines = report.lines ++ rest.lines;
      are = lines_append (commitments_of history) (rows_of history) from part.period.to to report.lines rest.lines (omega arith) later report.are_lines rest.are;
      billed = ap total (map-append (λ (l : LineValue). l.billed) report.lines rest.lines)
          ∙ total_append (map (λ (l : LineValue). l.billed) report.lines) (map (λ (l : LineValue). l.billed) rest.lines)
          ∙ ap (λ z. z +ℤ total (map (λ (l : LineValue). l.billed) rest.lines)) (sym (billed_lines history key from part.period.to report.lines part.report report.are_lines report))
          ∙ ap (λ z. billed_in part.report +ℤ z) rest.billed
          ∙ sym (total_cons (billed_in part.report) (map (λ (p : Part). billed_in p.report) parts));
      direct = ap total (map-append (λ (l : LineValue). l.effective) report.lines rest.lines)
          ∙ total_append (map (λ (l : LineValue). l.effective) report.lines) (map (λ (l : LineValue). l.effective) rest.lines)
          ∙ ap (λ z. z +ℤ total (map (λ (l : LineValue). l.effective) rest.lines)) (sym (direct_lines history key from part.period.to report.lines part.report report.are_lines report))
          ∙ ap (λ z. direct_in part.report +ℤ z) rest.direct
          ∙ sym (total_cons (direct_in part.report) (map (λ (p : Part). direct_in p.report) parts));
    }

charged_parts : (history : List entry.EntryValue) (key : List ℕ) (parts : List Part) → All IsEntry history → All (IsPartReport history key) parts → charged_of_parts parts ≡ direct_of_parts parts
charged_parts history key [] each reports = refl
charged_parts history key (part ∷ parts) each reports =
    total_cons (charged_in part.report) (map (λ (p : Part). charged_in p.report) parts)
    ∙ ap (λ z. z +ℤ charged_of_parts parts) (charged_direct history key part.period.from part.period.to part.report each (All-head (IsPartReport history key) part parts reports))
    ∙ ap (λ z. direct_in part.report +ℤ z) (charged_parts history key parts each (All-tail (IsPartReport history key) part parts reports))
    ∙ sym (total_cons (direct_in part.report) (map (λ (p : Part). direct_in p.report) parts))

pub billed_whole : (history : List entry.EntryValue) (key : List ℕ) (from to : ℕ) (step : Step) (whole : List EntryValue) (parts : List Part) → IsReportOn history key from to whole → AreParts history key from to step parts
    → billed_in whole ≡ billed_of_parts parts
billed_whole history key from to step whole parts is are =
    let has = parts_have history key step from to parts are.periods are.reports in
    billed_lines history key from to has.lines whole has.are is ∙ has.billed

pub direct_whole : (history : List entry.EntryValue) (key : List ℕ) (from to : ℕ) (step : Step) (whole : List EntryValue) (parts : List Part) → IsReportOn history key from to whole → AreParts history key from to step parts
    → direct_in whole ≡ direct_of_parts parts
direct_whole history key from to step whole parts is are =
    let has = parts_have history key step from to parts are.periods are.reports in
    direct_lines history key from to has.lines whole has.are is ∙ has.direct

pub charged_whole : (history : List entry.EntryValue) (key : List ℕ) (from to : ℕ) (step : Step) (whole : List EntryValue) (parts : List Part) → All IsEntry history → IsReportOn history key from to whole
    → AreParts history key from to step parts → charged_in whole ≡ charged_of_parts parts
charged_whole history key from to step whole parts each is are =
    charged_direct history key from to whole each is ∙ direct_whole history key from to step whole parts is are ∙ sym (charged_parts history key parts each are.reports)

-- each period has hours of the range, and no others
pub period_within : (step : Step) (from to : ℕ) (periods : List Period) (k : ℕ) (d : Period) → ArePeriods step from to periods → k < length periods
    → (from ≤ (get_or periods k d).from) × ((get_or periods k d).from < (get_or periods k d).to) × ((get_or periods k d).to ≤ to)
period_within step from to [] k d are within = absurd (omega arith)
period_within step from to (period ∷ periods) zero d are within =
    let begins = are.0.begins in
    let some = are.0.some in
    let ends = are.0.within in
    (omega arith, omega arith, omega arith)
period_within step from to (period ∷ periods) (suc k) d are within =
    let rest = period_within step period.to to periods k d are.1 (omega arith) in
    let some = are.0.some in
    (omega (arith, rest.0), rest.1, rest.2)

-- there is no report of one of the periods
pub refused_part : (history : List entry.EntryValue) (key : List ℕ) (from to : ℕ) (step : Step) (periods : List Period) (k : ℕ) (d : Period) (fault : QueryFault) → ArePeriods step from to periods → k < length periods
    → IsRefusedOn history key (get_or periods k d).from (get_or periods k d).to fault → IsPartRefused history key from to fault
refused_part history key from to step periods k d fault are within refused =
    let has = period_within step from to periods k d are within in
    record { low = (get_or periods k d).from; high = (get_or periods k d).to; begins = has.0; some = has.1; ends = has.2; refused = refused }
