use Rattle.std.proofs.Common.{◌-◌}
use Rattle.fw_posted.proofs.WithdrawFacts.{AreWithout}
use Rattle.fw_posted.proofs.withdrawing.parts_without.Given as goal

abbrev pub invariant-loop-row : goal.invariant-loop-row
invariant-loop-row l = AreWithout l.segments l.parts l.after l.start l.row l.behind l.segment

abbrev pub decreases-loop-row : goal.decreases-loop-row
decreases-loop-row l = l.behind - l.row
