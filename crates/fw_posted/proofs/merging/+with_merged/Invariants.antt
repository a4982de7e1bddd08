use Rattle.std.proofs.Common.{length}
use Rattle.fw_posted.proofs.merging.+with_merged.Given as goal

abbrev pub decreases-with_merged : goal.decreases-with_merged
decreases-with_merged l = length l.segments.now
