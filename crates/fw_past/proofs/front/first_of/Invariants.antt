use Rattle.std.proofs.Common.{◌≡◌, take}
use Rattle.fw_past.proofs.front.first_of.Given as goal

-- the rows so far are the first ones
abbrev pub invariant-loop-place : goal.invariant-loop-place
invariant-loop-place l = l.first ≡ take l.place l.columns
