use Rattle.std.proofs.Common.{take}
use Rattle.fw_replace.specs.Matching.{NoneHas}
use Rattle.fw_replace.proofs.matching.first_with.Given as goal

-- none of the posts so far has the rows
abbrev pub invariant-loop-place : goal.invariant-loop-place
invariant-loop-place l = NoneHas l.rows l.part (take l.place l.posts.items)
