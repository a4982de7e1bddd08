use Rattle.fw_compare.proofs.RangeFacts.{begins_when}
use Rattle.fw_compare.proofs.ranges.begins_month.Goals as goal

pub returns : goal.returns
returns c = begins_when c.args.hour c.last_periods.result.from c.requires c.last_periods.ensures.starts
