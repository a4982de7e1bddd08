use Rattle.std.proofs.Common.{◌≡◌, ◌-◌, [], List, length, refl, arith}
use Rattle.std.proofs.lemmas.Result.{IfOk-weaker}
use Rattle.fw_sums.specs.Costs.{Cost}
use Rattle.fw_sums.specs.Hours.{all_rows, lent}
use Rattle.fw_sums.specs.RangeLines.{joined}
use Rattle.fw_sums.specs.Sums.{AreSums, CountsHours}
use Rattle.fw_sums.specs.Totals.{AreTotals, HasTotals}
use Rattle.fw_sums.proofs.CountedFacts.{hours_of}
use Rattle.fw_sums.proofs.HourFacts.{by_hour_long}
use Rattle.fw_sums.proofs.RangeFacts.{range_lines}
use Rattle.fw_sums.proofs.totals.totals_of.Goals as goal

pub of_hours-requires-clause-fits : goal.of_hours-requires-clause-fits
of_hours-requires-clause-fits c =
    let long : length c.args.hours.now.by_hour.items ≡ c.args.query.now.to_hour - c.args.query.now.from_hour = by_hour_long _ _ _ _ _ c.requires.hours.lists_are in
    let some = c.requires.range.some in
    omega (arith, long, some)

pub of_hours-requires-clause-roster : goal.of_hours-requires-clause-roster
of_hours-requires-clause-roster c =
    let long : length c.args.hours.now.by_hour.items ≡ c.args.query.now.to_hour - c.args.query.now.from_hour = by_hour_long _ _ _ _ _ c.requires.hours.lists_are in
    rw long c.requires.roster

pub of_hours-requires-clause-hours : goal.of_hours-requires-clause-hours
of_hours-requires-clause-hours c =
    let long : length c.args.hours.now.by_hour.items ≡ c.args.query.now.to_hour - c.args.query.now.from_hour = by_hour_long _ _ _ _ _ c.requires.hours.lists_are in
    rw long c.requires.hours

pub of_hours-requires-clause-rows : goal.of_hours-requires-clause-rows
of_hours-requires-clause-rows c =
    let long : length c.args.hours.now.by_hour.items ≡ c.args.query.now.to_hour - c.args.query.now.from_hour = by_hour_long _ _ _ _ _ c.requires.hours.lists_are in
    rw long c.requires.rows

pub returns-clause-totals : goal.returns-clause-totals
returns-clause-totals c =
    let from = c.args.query.now.from_hour in
    let to = c.args.query.now.to_hour in
    let key = c.args.query.now.key.now in
    let rows = all_rows (lent c.args.segments.now) in
    let long : length c.args.hours.now.by_hour.items ≡ to - from = by_hour_long _ _ _ _ _ c.requires.hours.lists_are in
    let counted : CountsHours c.in_ok-of_hours.field-0 [] key c.args.roster.now.commitments (hours_of rows from (to - from)) from = rw long at c.in_ok-of_hours.ensures.groups in
    IfOk-weaker c.into_totals.result (λ totals. (costs : List Cost) → AreSums c.in_ok-of_hours.field-0 costs → AreTotals costs totals.items)
    (λ totals. HasTotals c.args.roster.now.commitments rows key from to totals.items)
    (λ totals made. record {
      lines = joined counted.hourly;
      are_lines = range_lines _ _ _ rows _ from to (to - from) counted refl refl;
      are_totals = made _ counted.counts.are_sums;
    })
    c.into_totals.ensures
