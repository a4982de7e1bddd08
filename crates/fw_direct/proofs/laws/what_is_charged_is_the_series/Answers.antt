use Rattle.std.proofs.Common.{◌≡◌, ◌∙◌, ℕ, ◌<◌, None, Option, Some, List, All, map, sym, subst}
use Rattle.std.specs.List.{AllZip}
use Rattle.fw_calendar.specs.declared.steps.Step.{Step}
use Rattle.fw_direct.specs.Parts.{ArePeriodsBy}
use Rattle.fw_direct.specs.Sheets.{AreChargedParts, HoldsShards, IsChargedPart, IsSum, SlotValue}
use Rattle.fw_direct.proofs.PeriodFacts.{adjacent, ask, hours_held}
use Rattle.fw_direct.proofs.SheetFacts.{direct_each, part_reports, period_of, same_periods}
use Rattle.fw_direct.proofs.laws.what_is_charged_is_the_series.Goals as goal
use Rattle.fw_entry.specs.Entry.{EntryValue}
use Rattle.fw_entry.specs.Spelling.{IsEntry}
use Rattle.fw_query.specs.OfHistory.{IsReportOn}
use Rattle.fw_query.specs.Reports as reports
use Rattle.fw_series.specs.Series.{ArePartsBy, IsPartReport}
use Rattle.fw_series.specs.declared.series.Part.{Part}
use Rattle.fw_shards.specs.Added.{IsDirectOn}
use Rattle.fw_shards.specs.Charged.{IsChargedReport}
use Rattle.fw_snapshot.specs.History.{policy_of}
use Rattle.fw_sums.specs.Costs.{Cost}

pub returns : goal.returns
returns c = λ whole key from to sheet series each some periods hold charged.
    let direct : (s : SlotValue) (sum : List Cost) → HoldsShards whole key s → IsSum s.reports sum → IsDirectOn whole key s.period.from s.period.to sum =
    λ s sum holds is. c.the_sum_is_the_report.ensures.direct whole s.period.from s.period.to holds.asked key s.reports sum each holds.shards holds.direct is.totals in
    let report : (s : SlotValue) (sum : List Cost) (entries : List reports.EntryValue) → HoldsShards whole key s → IsSum s.reports sum → IsChargedReport (policy_of whole) key sum entries
    → IsReportOn whole key s.period.from s.period.to entries =
    λ s sum entries holds is made.
    subst (IsReportOn whole key s.period.from s.period.to) (sym made.entries_are)
    (c.the_sum_is_the_report.ensures.charged whole s.period.from s.period.to holds.asked key s.reports sum made.charged each holds.shards holds.direct is.totals is.small made.are_charged) in
    let part : (s : SlotValue) (p : Part) → HoldsShards whole key s → IsChargedPart (policy_of whole) key s p → IsPartReport whole key p =
    λ s p holds is. subst (λ q. IsReportOn whole key q.from q.to p.report) (sym is.period) (report s is.sum p.report holds is.is_sum is.report) in
    let ps = map period_of sheet.slots in
    let next = adjacent sheet.step from to ps some periods in
    let shards = c.whole_hours_are_shards.ensures.hours whole from to (map (ask whole) ps) (hours_held whole from to ps next) in
    let of_whole = charged.whole in
    let made = of_whole.report in
    let on_each = direct_each whole key sheet.slots of_whole.sums direct hold of_whole.are_sums in
    let parts : (step : Option Step) → ArePeriodsBy step from to ps → AreChargedParts (policy_of whole) key step sheet.slots series.parts.items → ArePartsBy whole key from to step series.parts.items =
    λ step. elim step as (λ k. ArePeriodsBy k from to ps → AreChargedParts (policy_of whole) key k sheet.slots series.parts.items → ArePartsBy whole key from to k series.parts.items) [
      | None ↦ λ are none. none
      | Some s ↦ λ are zip. record {
        periods = subst (ArePeriodsBy (Some s) from to) (sym (same_periods (policy_of whole) key sheet.slots series.parts.items zip)) are;
        reports = part_reports whole (policy_of whole) key sheet.slots series.parts.items part hold zip;
      }
    ] in
    record {
      whole = subst (IsReportOn whole key from to) (sym made.entries_are)
          (c.the_sum_is_the_report.ensures.charged whole from to (map (ask whole) ps) key of_whole.sums of_whole.sum made.charged each shards on_each of_whole.is_sum.totals of_whole.is_sum.small made.are_charged);
      parts = parts sheet.step periods charged.parts;
    }
