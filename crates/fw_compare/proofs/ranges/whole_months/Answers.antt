use Rattle.std.proofs.Common.{◌≡◌, ◌+◌, suc, arith, subst}
use Rattle.fw_compare.specs.Ranges.{AreMonthsUpTo}
use Rattle.fw_compare.proofs.RangeFacts.{months_behind, months_more, months_rise}
use Rattle.fw_compare.proofs.ranges.whole_months.Goals as goal

pub loop-end-preserved : goal.loop-end-preserved
loop-end-preserved c =
    let kept = c.loop-end.invariant in
    let month = c.end_of_month-end.ensures in
    let end = c.end_of_month-end.result in
    let more = months_more c.loop-end.months c.args.hours.from c.loop-end.end end kept.so_far month in
    let next : suc c.loop-end.months ≡ c.loop-end.months + 1 = omega arith in
    let before = kept.some in
    let later = month.some in
    record {
      begins = kept.begins;
      so_far = subst (λ n. AreMonthsUpTo n c.args.hours.from end) next more;
      rest = λ n are.
          let left = kept.rest n are in
          let behind = months_behind left.0 c.loop-end.end end c.args.hours.to month (omega arith) left.1 in
          let count = left.2 in
          let one = behind.2 in
          (behind.0, behind.1, omega (arith, count, one));
      some = omega (arith, before, later);
      within = month.within;
    }

pub returns-else-end-hours : goal.returns-else-end-hours
returns-else-end-hours c = λ n are.
    let left = c.loop-end.invariant.rest n are.months in
    let rise = months_rise left.0 c.loop-end.end c.args.hours.to left.1 in
    absurd (omega (arith, rise))
