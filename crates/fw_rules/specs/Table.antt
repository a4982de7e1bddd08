-- A table of rules, in order. A rule is a fault beside the fact that the rule is broken. What stands first in the table is told first.
use Rattle.std.specs.Prelude.{◌≡◌, ◌⊎◌, List, [], ◌∷◌}

-- f is the fault of the first rule that is broken: that rule is broken, and none of the rules before it
unfoldable pub FirstBroken : {F : Type 0} → List (F × Type 0) → F → Type 0
FirstBroken [] f = ⊥
FirstBroken (r ∷ rules) f = (r.1 × (f ≡ r.0)) ⊎ ((¬ r.1) × FirstBroken rules f)

-- no rule is broken
unfoldable pub NoneBroken : {F : Type 0} → List (F × Type 0) → Type 0
NoneBroken [] = Unit {0}
NoneBroken (r ∷ rules) = (¬ r.1) × NoneBroken rules
