use Rattle.std.proofs.Common.{◌≡◌, All, false, take}
use Rattle.fw_posted.specs.Gone.{is_in}
use Rattle.fw_posted.specs.declared.gone.Gone.{Gone}
use Rattle.fw_posted.proofs.gone.is_gone.Given as goal

-- the row is in none of the ranges so far
abbrev pub invariant-loop-at : goal.invariant-loop-at
invariant-loop-at l = All (λ (g : Gone). is_in g l.place ≡ false) (take l.at l.gone)
