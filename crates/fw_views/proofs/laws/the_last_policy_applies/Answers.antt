use Rattle.fw_views.proofs.PolicyFacts.{policy_at}
use Rattle.fw_views.proofs.laws.the_last_policy_applies.Goals as goal

pub returns : goal.returns
returns c = policy_at
