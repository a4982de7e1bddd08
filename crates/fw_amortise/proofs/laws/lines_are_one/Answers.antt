use Rattle.fw_amortise.proofs.OneList.{lines_same}
use Rattle.fw_amortise.proofs.laws.lines_are_one.Goals as goal

pub returns : goal.returns
returns c = lines_same
