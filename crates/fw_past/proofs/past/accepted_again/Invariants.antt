use Rattle.fw_past.proofs.ReplayFacts.{IsReplayed}
use Rattle.fw_past.proofs.past.accepted_again.Given as goal

-- the entries so far were accepted again
abbrev pub invariant-loop-place : goal.invariant-loop-place
invariant-loop-place l = IsReplayed l.builder l.state l.count l.place
