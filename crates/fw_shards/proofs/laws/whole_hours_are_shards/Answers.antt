use Rattle.fw_shards.proofs.CaseFacts.{cut_holds, hours_are_shards}
use Rattle.fw_shards.proofs.laws.whole_hours_are_shards.Goals as goal

pub returns : goal.returns
returns c = record { hours = hours_are_shards; cut = cut_holds }
