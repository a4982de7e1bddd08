use Rattle.fw_figures.proofs.UnitFacts.{used_between}
use Rattle.fw_figures.proofs.laws.used_capacity_is_eligible.Goals as goal

pub returns : goal.returns
returns c = used_between
