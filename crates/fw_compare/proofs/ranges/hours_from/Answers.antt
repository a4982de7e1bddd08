use Rattle.fw_compare.proofs.RangeFacts.{from_months}
use Rattle.fw_compare.proofs.ranges.hours_from.Goals as goal

pub returns-in-Some : goal.returns-in-Some
returns-in-Some c = from_months c.args.hours c.args.from c.end_of_months.result c.in-Some.months c.in-Some.ensures.1 c.if-not-begins_month.ensures c.end_of_months.ensures
