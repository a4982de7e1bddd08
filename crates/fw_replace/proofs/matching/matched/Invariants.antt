use Rattle.std.proofs.Common.{take}
use Rattle.fw_replace.specs.Matching.{AreMatched}
use Rattle.fw_replace.proofs.matching.matched.Given as goal

-- the parts so far are matched
abbrev pub invariant-loop-part : goal.invariant-loop-part
invariant-loop-part l = AreMatched l.rows l.posts (take l.part-index l.parts) l.is_there.items l.left.items
