use Rattle.std.proofs.Common.{◌≡◌, ◌+◌, suc, arith, subst}
use Rattle.fw_compare.specs.Ranges.{AreMonthsUpTo}
use Rattle.fw_compare.proofs.RangeFacts.{months_more}
use Rattle.fw_compare.proofs.ranges.end_of_months.Goals as goal

pub loop-month-preserved : goal.loop-month-preserved
loop-month-preserved c =
    let more = months_more c.loop-month._month c.args.from c.loop-month.end c.end_of_month-end.result c.loop-month.invariant.so_far c.end_of_month-end.ensures in
    let next : suc c.loop-month._month ≡ c.loop-month._month + 1 = omega arith in
    record {
      so_far = subst (λ n. AreMonthsUpTo n c.args.from c.end_of_month-end.result) next more;
      within = c.end_of_month-end.ensures.within;
    }
