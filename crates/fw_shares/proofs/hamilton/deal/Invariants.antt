use Rattle.fw_shares.proofs.Dealing.{DealtTo}
use Rattle.fw_shares.proofs.hamilton.deal.Given as goal

abbrev pub invariant-loop-place : goal.invariant-loop-place
invariant-loop-place l = DealtTo l.total l.whole l.weights l.cut l.place l.shares.items l.ties
