use Rattle.fw_cover.proofs.Whole.{commitment_whole, row_whole}
use Rattle.fw_cover.proofs.laws.takes_stay_within.Goals as goal

pub returns : goal.returns
returns c = record { rows = row_whole; commitments = commitment_whole }
