use Rattle.fw_allocate.proofs.Unique.{charges_same}
use Rattle.fw_allocate.proofs.laws.charges_are_one.Goals as goal

pub returns : goal.returns
returns c = charges_same
