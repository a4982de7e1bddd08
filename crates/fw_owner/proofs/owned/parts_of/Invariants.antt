use Rattle.std.proofs.Common.{◌≡◌, All, map, take}
use Rattle.fw_owner.specs.Owned.{IsStretch}
use Rattle.fw_owner.proofs.owned.parts_of.Given as goal

-- the parts are of the periods so far, each with what the group cost there
abbrev pub invariant-loop-period : goal.invariant-loop-period
invariant-loop-period l =
    (map (λ p. p.hours) l.parts.items ≡ take l.period-index l.period-items) × All (IsStretch l.snapshot.entries l.query.key.now l.group) l.parts.items
