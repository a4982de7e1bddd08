use Rattle.std.proofs.Common.{◌≡◌, All, map, take}
use Rattle.fw_selections.specs.Parts.{IsPartSelection}
use Rattle.fw_selections.proofs.parts.parts_of.Given as goal

-- the parts are the periods so far, each with its selection
abbrev pub invariant-loop-period : goal.invariant-loop-period
invariant-loop-period l =
    (map (λ p. p.period) l.parts.items ≡ take l.period-index l.period-items) × All (IsPartSelection l.snapshot.entries l.selector) l.parts.items
