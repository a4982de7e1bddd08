use Rattle.fw_segment.proofs.Histories.{states_one}
use Rattle.fw_segment.proofs.laws.states_are_one.Goals as goal

pub returns : goal.returns
returns c = states_one
