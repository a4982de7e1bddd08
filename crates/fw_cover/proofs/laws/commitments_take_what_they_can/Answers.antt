use Rattle.fw_cover.proofs.Filling.{row_used_up, row_out_of_reach}
use Rattle.fw_cover.proofs.laws.commitments_take_what_they_can.Goals as goal

pub returns : goal.returns
returns c = record { quantity = row_used_up; cost = row_out_of_reach }
