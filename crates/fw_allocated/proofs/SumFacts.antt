-- What exported rows come to is what their lines come to.
use Rattle.std.proofs.Common.{◌≡◌, ◌∙◌, ◌-◌, ℕ, All, List, [], ◌∷◌, ◌++◌, map, sym, ap, refl, subst}
use Rattle.std.proofs.lemmas.List.{map-append}
use Rattle.std.proofs.lemmas.List.Elements.{All-nil, All-cons}
use Rattle.std.specs.List.{AllZip, flat_map, range_with_len}
use Rattle.fw_allocate.specs.Costs.{CostValue, total}
use Rattle.fw_amortise.specs.LineValue.{LineValue}
use Rattle.fw_amortise.specs.Lines.{AreLines}
use Rattle.fw_charge.specs.Charge.{Charge}
use Rattle.fw_entry.specs.Entry as entry
use Rattle.fw_query.specs.OfHistory.{AreLinesOf, IsReportOn}
use Rattle.fw_query.specs.Reports.{EntryValue, entries_of}
use Rattle.fw_query.proofs.DirectFacts.{billed_lines, direct_lines}
use Rattle.fw_query.proofs.OneAnswer.{range_lines_same}
use Rattle.fw_snapshot.specs.History.{commitments_of, rows_of}
use Rattle.fw_sums.specs.Costs.{Cost, costs_of, line_cost, sum_in}
use Rattle.fw_sums.specs.Hours.{row_cost}
use Rattle.fw_sums.specs.RangeLines.{AreHourly, joined}
use Rattle.fw_terms.specs.Commitment.{CommitmentValue}
use Rattle.fw_allocated.specs.Exported.{exported}
use Rattle.fw_allocated.specs.LineRows.{AreExportsAt, LineRows, exported_lines, rows_behind}
use Rattle.fw_allocated.specs.Sums.{AreExportsOf, billed_under, effective_under}

-- ---- the lines of an hour, exported

-- rows bring what lines bring, under each key
record AreAlike (rows : List Charge) (lines : List LineValue) : Type 0 where
  costs : (key : List ℕ) → map (row_cost key) rows ≡ costs_of key lines
  billed : map (λ r. r.billed) rows ≡ map (λ l. l.billed) lines
  effective : map (λ r. r.effective) rows ≡ map (λ l. l.effective) lines

exported_alike : (rows : LineRows) (lines : List LineValue) → AreAlike (exported_lines rows lines) lines
unfolding exported
exported_alike rows [] = record { costs = λ key. refl; billed = refl; effective = refl }
exported_alike rows (line ∷ lines) =
    let rest = exported_alike (rows_behind line.kind rows) lines in
    record {
      costs = λ key. ap (λ t. line_cost key line ∷ t) (rest.costs key);
      billed = ap (λ t. line.billed ∷ t) rest.billed;
      effective = ap (λ t. line.effective ∷ t) rest.effective;
    }

append_alike : (rows more : List Charge) (lines others : List LineValue) → AreAlike rows lines → AreAlike more others → AreAlike (rows ++ more) (lines ++ others)
append_alike rows more lines others a b = record {
  costs = λ key. map-append (row_cost key) rows more ∙ ap (λ t. t ++ map (row_cost key) more) (a.costs key) ∙ ap (λ t. costs_of key lines ++ t) (b.costs key)
      ∙ sym (map-append (line_cost key) lines others);
  billed = map-append (λ (r : Charge). r.billed) rows more ∙ ap (λ t. t ++ map (λ (r : Charge). r.billed) more) a.billed
      ∙ ap (λ t. map (λ (l : LineValue). l.billed) lines ++ t) b.billed ∙ sym (map-append (λ (l : LineValue). l.billed) lines others);
  effective = map-append (λ (r : Charge). r.effective) rows more ∙ ap (λ t. t ++ map (λ (r : Charge). r.effective) more) a.effective
      ∙ ap (λ t. map (λ (l : LineValue). l.effective) lines ++ t) b.effective ∙ sym (map-append (λ (l : LineValue). l.effective) lines others);
}

-- ---- hour by hour

record HaveLines (cs : List CommitmentValue) (rows : List Charge) (hours : List ℕ) (hourly : List (List Charge)) : Type 0 where
  lines : List (List LineValue)
  are : AreHourly cs rows hours lines
  alike : AreAlike (flat_map (λ exports. exports) hourly) (joined lines)

hours_have : (cs : List CommitmentValue) (rows : List Charge) (hours : List ℕ) (hourly : List (List Charge)) → AllZip (AreExportsAt cs rows) hours hourly → HaveLines cs rows hours hourly
unfolding AreLines
hours_have cs rows [] [] are = record { lines = []; are = tt; alike = record { costs = λ key. refl; billed = refl; effective = refl } }
hours_have cs rows [] (exports ∷ hourly) are = absurd are
hours_have cs rows (hour ∷ hours) [] are = absurd are
hours_have cs rows (hour ∷ hours) (exports ∷ hourly) are =
    let rest = hours_have cs rows hours hourly are.1 in
    let here = are.0 in
    let own : AreAlike exports here.lines = subst (λ e. AreAlike e here.lines) (sym here.exports_are) (exported_alike _ here.lines) in
    record {
      lines = here.lines ∷ rest.lines;
      are = (here.are_lines, rest.are);
      alike = append_alike exports (flat_map (λ e. e) hourly) here.lines (joined rest.lines) own rest.alike;
    }

record HasLines (history : List entry.EntryValue) (from to : ℕ) (exports : List Charge) : Type 0 where
  lines : List LineValue
  are : AreLinesOf history from to lines
  alike : AreAlike exports lines

range_has : (history : List entry.EntryValue) (from to : ℕ) (exports : List Charge) → AreExportsOf history from to exports → HasLines history from to exports
range_has history from to exports is =
    let have = hours_have (commitments_of history) (rows_of history) (range_with_len from (to - from)) is.hourly is.are_hourly in
    record {
      lines = joined have.lines;
      are = record { hourly = have.lines; are_hourly = have.are; lines_are = refl };
      alike = subst (λ e. AreAlike e (joined have.lines)) (sym is.exports_are) have.alike;
    }

-- ---- beside a report

-- a group of a report is billed, and costs, what these costs come to in it
abbrev IsSumOf : List Cost → EntryValue → Type 0
IsSumOf costs e = (e.billed ≡ sum_in (λ c. c.billed) costs e.group) × (e.direct ≡ sum_in (λ c. c.effective) costs e.group)

entries_sum : (costs : List Cost) (charged : List CostValue) → All (IsSumOf costs) (entries_of costs charged)
unfolding entries_of
entries_sum costs [] = All-nil (IsSumOf costs)
entries_sum costs (c ∷ charged) = All-cons (IsSumOf costs) _ _ (refl, refl) (entries_sum costs charged)

pub groups_sum : (history : List entry.EntryValue) (key : List ℕ) (from to : ℕ) (exports : List Charge) (report : List EntryValue) → AreExportsOf history from to exports → IsReportOn history key from to report
    → All (λ e. (e.billed ≡ billed_under key exports e.group) × (e.direct ≡ effective_under key exports e.group)) report
groups_sum history key from to exports report are is =
    let has = range_has history from to exports are in
    let same : is.lines ≡ has.lines = range_lines_same (commitments_of history) (rows_of history) from to is.lines has.lines is.are_lines has.are in
    let costs : costs_of key is.lines ≡ map (row_cost key) exports = ap (costs_of key) same ∙ sym (has.alike.costs key) in
    let entries : All (IsSumOf (costs_of key is.lines)) report =
    subst (All (IsSumOf (costs_of key is.lines))) (sym is.is_report.entries_are) (entries_sum (costs_of key is.lines) is.is_report.charged) in
    subst (λ cs. All (IsSumOf cs) report) costs entries

pub billed_sum : (history : List entry.EntryValue) (key : List ℕ) (from to : ℕ) (exports : List Charge) (report : List EntryValue) → AreExportsOf history from to exports → IsReportOn history key from to report
    → total (map (λ e. e.billed) report) ≡ total (map (λ r. r.billed) exports)
billed_sum history key from to exports report are is =
    let has = range_has history from to exports are in
    billed_lines history key from to has.lines report has.are is ∙ ap total (sym has.alike.billed)

pub effective_sum : (history : List entry.EntryValue) (key : List ℕ) (from to : ℕ) (exports : List Charge) (report : List EntryValue) → AreExportsOf history from to exports → IsReportOn history key from to report
    → total (map (λ e. e.direct) report) ≡ total (map (λ r. r.effective) exports)
effective_sum history key from to exports report are is =
    let has = range_has history from to exports are in
    direct_lines history key from to has.lines report has.are is ∙ ap total (sym has.alike.effective)
