use Rattle.fw_toml.specs.Tree.{IsThere}
use Rattle.fw_toml.proofs.KindFacts.{text-there}
use Rattle.fw_toml.proofs.kinds.text.Goals as goal

pub returns-in-Some : goal.returns-in-Some
returns-in-Some c = text-there _ _ c.as_text.result c.in-Some.ensures c.as_text.ensures

pub returns-in-None : goal.returns-in-None
unfolding IsThere
returns-in-None c = rw c.in-None.ensures (λ h. h)
