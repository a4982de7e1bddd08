use Rattle.fw_finops.proofs.ListedFacts.{small_rate}
use Rattle.fw_finops.proofs.usable.usable.Goals as goal

pub whole_of-requires : goal.whole_of-requires
whole_of-requires c = small_rate c.args.commitment.now c.args.hour c.args.row.now c.in-Some.rate c.applied.ensures.in_limits c.in-Some.ensures.value
