use Rattle.fw_allocated.proofs.SumFacts.{billed_sum, effective_sum, groups_sum}
use Rattle.fw_allocated.proofs.laws.exports_sum_to_the_report.Goals as goal

pub returns : goal.returns
returns c = record { groups = groups_sum; billed = billed_sum; effective = effective_sum }
