use Rattle.fw_sums.proofs.ListedFacts.{IsOnlyBefore}
use Rattle.fw_sums.proofs.listed.Listed.only_listed.Given as goal

-- the codes so far are marked but one, or all of them
abbrev pub invariant-loop-which : goal.invariant-loop-which
invariant-loop-which l = IsOnlyBefore l.self l.segment l.codes l.which l.only
