use Rattle.fw_amortise.proofs.Accounting.{hour_accounted}
use Rattle.fw_amortise.proofs.laws.rows_are_accounted_for.Goals as goal

pub returns : goal.returns
returns c = hour_accounted
