use Rattle.std.proofs.Common.{arith}
use Rattle.fw_compare.proofs.RangeFacts.{before_months}
use Rattle.fw_compare.proofs.ranges.hours_before.Goals as goal

pub returns-in-Some : goal.returns-in-Some
returns-in-Some c = before_months c.args.hours c.last_periods-last.result.from c.in-Some.months (omega arith) c.in-Some.ensures.1 c.last_periods-last.ensures.starts
