use Rattle.std.proofs.Common.{length}
use Rattle.fw_ahead.proofs.content.next_post.Given as goal

abbrev pub decreases-loop-command : goal.decreases-loop-command
decreases-loop-command l = length l.script
