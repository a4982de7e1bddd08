use Rattle.fw_policy.proofs.TextFacts.{text-one}
use Rattle.fw_policy.proofs.laws.policy_reads_as_one.Goals as goal

pub returns : goal.returns
returns c = text-one c.args.text.now
