use Rattle.fw_definitions.proofs.JoiningFacts.{joined}
use Rattle.fw_definitions.proofs.laws.segments_are_joined_as_far_as_they_fit.Goals as goal

pub returns : goal.returns
returns c = joined
