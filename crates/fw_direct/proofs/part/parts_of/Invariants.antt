use Rattle.std.proofs.Common.{◌≡◌, All, map, take}
use Rattle.fw_direct.specs.Parts.{IsDirectPart}
use Rattle.fw_direct.proofs.part.parts_of.Given as goal

-- the parts are the periods so far, each with its direct report
abbrev pub invariant-loop-period : goal.invariant-loop-period
invariant-loop-period l =
    (map (λ p. p.period) l.parts.items ≡ take l.period-index l.period-items) × All (IsDirectPart l.snapshot.entries l.query.key.now) l.parts.items
