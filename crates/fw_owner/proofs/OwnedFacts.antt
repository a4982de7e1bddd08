-- What an owner sees, and the reports of all groups.
use Rattle.std.proofs.Common.{◌≡◌, ◌∙◌, ℕ, ◌+◌, ◌<◌, inl, inr, All, List, [], ◌∷◌, ◌++◌, Option, length, get_or, map, take, sym, ap, subst, arith}
use Rattle.std.proofs.lemmas.List.{map-append, take_more}
use Rattle.std.proofs.lemmas.List.Elements.{All-append, All-cons, All-nil}
use Rattle.fw_calendar.specs.Periods.{ArePeriods}
use Rattle.fw_calendar.specs.declared.steps.Step.{Step}
use Rattle.fw_calendar.specs.declared.steps.Period.{Period}
use Rattle.fw_entry.specs.Entry as entry
use Rattle.fw_owner.specs.Owned.{IsOwned, IsOwnedRefused, IsRefusedUpTo}
use Rattle.fw_owner.specs.declared.owned.Owned.{Owned}
use Rattle.fw_owner.specs.declared.owned.Stretch.{Stretch}
use Rattle.fw_query.specs.OfHistory.{IsReportOn}
use Rattle.fw_query.specs.Reports.{EntryValue}
use Rattle.fw_query.specs.declared.fault.QueryFault.{QueryFault}
use Rattle.fw_query.proofs.OneAnswer.{report_same}
use Rattle.fw_series.proofs.SeriesFacts.{period_within}
use Rattle.fw_snapshot.specs.History.{commitments_of, policy_of, rows_of}

-- there is one report of a range, and it is the one in which the group was found
pub report_is : (history : List entry.EntryValue) (key group : List ℕ) (from to : ℕ) (step : Option Step) (owned : Owned) (report : List EntryValue) (is : IsOwned history key group from to step owned)
    → IsReportOn history key from to report → is.whole.are_found.entries ≡ report
report_is history key group from to step owned report is on =
    let found = is.whole.are_found in
    let begun : IsReportOn history key from owned.whole.hours.to found.entries = subst (λ l. IsReportOn history key l owned.whole.hours.to found.entries) is.begins found.report in
    let mine : IsReportOn history key from to found.entries = subst (λ h. IsReportOn history key from h found.entries) is.ends begun in
    report_same (commitments_of history) (rows_of history) (policy_of history) key from to found.entries report mine on

-- where a period of a range has no report, or the hours before it have none, some hours up to the end of the range have none
pub up_to : (history : List entry.EntryValue) (key : List ℕ) (from to : ℕ) (step : Step) (periods : List Period) (k : ℕ) (d : Period) (fault : QueryFault) → ArePeriods step from to periods → k < length periods
    → IsOwnedRefused history key (get_or periods k d).from (get_or periods k d).to fault → IsRefusedUpTo history key to fault
up_to history key from to step periods k d fault are within (inl refused) =
    let has = period_within step from to periods k d are within in
    record { low = (get_or periods k d).from; high = (get_or periods k d).to; some = has.1; ends = has.2; refused = refused }
up_to history key from to step periods k d fault are within (inr up) =
    let has = period_within step from to periods k d are within in
    let ends = up.ends in
    record { low = up.low; high = up.high; some = up.some; ends = omega (arith, has.2); refused = up.refused }

-- one period more, with what the group cost there
pub part_more : (P : Stretch → Type 0) (periods : List Period) (i : ℕ) (d : Period) (parts : List Stretch) (part : Stretch) (pushed : List Stretch) → i < length periods → pushed ≡ parts ++ part ∷ []
    → map (λ (s : Stretch). s.hours) parts ≡ take i periods → part.hours ≡ get_or periods i d → All P parts → P part → (map (λ (s : Stretch). s.hours) pushed ≡ take (i + 1) periods) × All P pushed
part_more P periods i d parts part pushed within is so here each one =
    let one_more : All P (part ∷ []) = All-cons P part [] one (All-nil P) in
    let every : All P (parts ++ part ∷ []) = All-append P parts (part ∷ []) each one_more in
    (ap (map (λ (s : Stretch). s.hours)) is ∙ map-append (λ (s : Stretch). s.hours) parts (part ∷ []) ∙ (λ j. so j ++ here j ∷ []) ∙ sym (take_more periods i d within), subst (All P) (sym is) every)
