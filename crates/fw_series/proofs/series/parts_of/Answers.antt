use Rattle.std.proofs.Common.{inr, arith}
use Rattle.fw_calendar.specs.Periods.{ArePeriods}
use Rattle.fw_series.proofs.SeriesFacts.{refused_part}
use Rattle.fw_series.proofs.series.parts_of.Goals as goal

pub returns-in-Err-clause-fault : goal.returns-in-Err-clause-fault
returns-in-Err-clause-fault g c =
    let are : ArePeriods c.args.step c.args.query.now.from_hour c.args.query.now.to_hour c.deref-period-items.result.now = rw c.deref-period-items.ensures.value c.in_ok-periods.ensures in
    inr (refused_part c.args.snapshot.now.entries c.args.query.now.key.now c.args.query.now.from_hour c.args.query.now.to_hour c.args.step c.deref-period-items.result.now
    c.loop-period.period-index _ _ are (omega arith) c.in-Err.ensures.fault)
