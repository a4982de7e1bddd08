use Rattle.fw_query.proofs.TotalFacts.{report_total}
use Rattle.fw_query.proofs.laws.reports_keep_the_total.Goals as goal

pub returns : goal.returns
returns c = report_total
