use Rattle.std.proofs.Common.{◌≡◌, take}
use Rattle.fw_adding.proofs.fields.are_same_purchases.Given as goal

abbrev pub invariant-loop-place : goal.invariant-loop-place
invariant-loop-place l = take l.place l.one ≡ take l.place l.other
