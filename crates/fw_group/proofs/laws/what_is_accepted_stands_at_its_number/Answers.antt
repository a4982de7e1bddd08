use Rattle.fw_group.proofs.Grown.{accepts}
use Rattle.fw_group.proofs.laws.what_is_accepted_stands_at_its_number.Goals as goal

pub returns : goal.returns
returns c = λ s t answers event a place r does is. accepts s answers event a t place r does is
