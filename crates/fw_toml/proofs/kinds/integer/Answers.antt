use Rattle.fw_toml.specs.Tree.{IsThere}
use Rattle.fw_toml.proofs.KindFacts.{integer-there}
use Rattle.fw_toml.proofs.kinds.integer.Goals as goal

pub returns-in-Some : goal.returns-in-Some
returns-in-Some c = integer-there _ _ c.as_integer.result c.in-Some.ensures c.as_integer.ensures

pub returns-in-None : goal.returns-in-None
unfolding IsThere
returns-in-None c = rw c.in-None.ensures (λ h. h)
