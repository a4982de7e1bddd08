use Rattle.toml.specs.View.{view}
use Rattle.fw_toml.proofs.KindFacts.{integer-kind}
use Rattle.fw_toml.proofs.kinds.as_integer.Goals as goal

pub returns : goal.returns
returns c = integer-kind (view c.args.value.now) c.as_integer.result c.as_integer.ensures
