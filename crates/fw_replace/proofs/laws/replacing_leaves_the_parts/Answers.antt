use Rattle.fw_replace.proofs.ReplaceFacts.{replaced}
use Rattle.fw_replace.proofs.laws.replacing_leaves_the_parts.Goals as goal

pub returns : goal.returns
returns c = replaced
