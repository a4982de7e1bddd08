use Rattle.std.proofs.Common.{take}
use Rattle.fw_replace.specs.Own.{NoneNumbered}
use Rattle.fw_replace.proofs.own.place_of.Given as goal

-- none of the posts so far is it
abbrev pub invariant-loop-place : goal.invariant-loop-place
invariant-loop-place l = NoneNumbered l.rows l.number l.part (take l.place l.posts)
