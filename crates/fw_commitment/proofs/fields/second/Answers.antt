use Rattle.fw_toml.specs.Tree.{stated}
use Rattle.fw_commitment.proofs.ValueFacts.{text-none}
use Rattle.fw_commitment.proofs.fields.second.Goals as goal

pub returns-in-None-clause-value : goal.returns-in-None-clause-value
returns-in-None-clause-value c = λ s has. text-none (stated c.args.table.now) c.args.name.now c.in-None.ensures has.0 has.1
