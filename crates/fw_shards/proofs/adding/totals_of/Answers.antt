use Rattle.std.proofs.Common.{◌<◌, length, subst, take, arith}
use Rattle.fw_shards.specs.Added.{all_of}
use Rattle.fw_sums.specs.Totals.{AreTotals}
use Rattle.fw_shards.proofs.AddedFacts.{can_reports, no_totals, one_report}
use Rattle.fw_shards.proofs.adding.totals_of.Goals as goal

pub loop-report-init : goal.loop-report-init
loop-report-init c = rw c.new-totals.ensures.items no_totals

pub add_report-requires : goal.add_report-requires
add_report-requires c =
    let below : c.loop-report.report-index < length c.args.reports.now = omega arith in (
      all_of (take c.loop-report.report-index c.args.reports.now),
      c.loop-report.invariant,
      rw c.entries.ensures (can_reports c.args.reports.now c.loop-report.report-index c.report-item.result below c.report-item.is c.requires),
    )

pub loop-report-preserved : goal.loop-report-preserved
loop-report-preserved c =
    let below : c.loop-report.report-index < length c.args.reports.now = omega arith in
    subst (λ l. AreTotals l c.add_report.new.totals.items) (one_report c.args.reports.now c.loop-report.report-index c.report-item.result below c.report-item.is)
    (rw c.entries.ensures at (c.in_ok-add_report.ensures (all_of (take c.loop-report.report-index c.args.reports.now)) c.loop-report.invariant))
