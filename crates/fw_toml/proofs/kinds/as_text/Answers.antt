use Rattle.toml.specs.View.{view}
use Rattle.fw_toml.proofs.KindFacts.{text-kind}
use Rattle.fw_toml.proofs.kinds.as_text.Goals as goal

pub returns : goal.returns
returns c = text-kind (view c.args.value.now) c.as_str.result c.as_str.ensures
