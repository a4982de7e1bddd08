use Rattle.fw_series.proofs.SeriesFacts.{billed_whole, charged_whole, direct_whole}
use Rattle.fw_series.proofs.laws.periods_sum_to_the_whole.Goals as goal

pub returns : goal.returns
returns c = record { billed = billed_whole; direct = direct_whole; charged = charged_whole }
