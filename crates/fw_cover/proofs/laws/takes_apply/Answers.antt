use Rattle.fw_cover.proofs.Whole.{takes_meet}
use Rattle.fw_cover.proofs.laws.takes_apply.Goals as goal

pub returns : goal.returns
returns c = takes_meet
