-- The first broken rule of lists one after another.
use Rattle.std.proofs.Common.{[], ◌∷◌, ◌++◌, sym, inl, inr, subst}
use Rattle.fw_rules.specs.Table.{FirstBroken, NoneBroken}
use Rattle.fw_policy.specs.Policy.{Checks}
use Rattle.fw_policy.specs.Parts.{IsFault}
use Rattle.fw_policy.specs.declared.fault.PolicyFault.{PolicyFault}

-- the first of the two lists has a broken rule
pub first-in : (xs ys : Checks) (f : PolicyFault) → FirstBroken xs f → FirstBroken (xs ++ ys) f
unfolding FirstBroken
first-in [] ys f h = absurd h
first-in (x ∷ xs) ys f (inl h) = inl h
first-in (x ∷ xs) ys f (inr h) = inr (h.0, first-in xs ys f h.1)

-- it has none
pub first-after : (xs ys : Checks) (f : PolicyFault) → NoneBroken xs → FirstBroken ys f → FirstBroken (xs ++ ys) f
unfolding FirstBroken NoneBroken
first-after [] ys f none h = h
first-after (x ∷ xs) ys f none h = inr (none.0, first-after xs ys f none.1 h)

pub none-both : (xs ys : Checks) → NoneBroken xs → NoneBroken ys → NoneBroken (xs ++ ys)
unfolding NoneBroken
none-both [] ys a b = b
none-both (x ∷ xs) ys a b = (a.0, none-both xs ys a.1 b)

pub none-left : (xs ys : Checks) → NoneBroken (xs ++ ys) → NoneBroken xs
unfolding NoneBroken
none-left [] ys a = tt
none-left (x ∷ xs) ys a = (a.0, none-left xs ys a.1)

pub none-right : (xs ys : Checks) → NoneBroken (xs ++ ys) → NoneBroken ys
unfolding NoneBroken
none-right [] ys a = a
none-right (x ∷ xs) ys a = none-right xs ys a.1

-- a fault of the first of two lists, and of the second
pub fault-in : (xs ys : Checks) (f : PolicyFault) → IsFault xs f → IsFault (xs ++ ys) f
fault-in xs ys f (inl memory) = inl memory
fault-in xs ys f (inr first) = inr (first-in xs ys f first)

pub fault-after : (xs ys : Checks) (f : PolicyFault) → NoneBroken xs → IsFault ys f → IsFault (xs ++ ys) f
fault-after xs ys f none (inl memory) = inl memory
fault-after xs ys f none (inr first) = inr (first-after xs ys f none first)

-- ---- the faults that a list can give

unfoldable pub AllFaults : (PolicyFault → Type 0) → Checks → Type 0
AllFaults Q [] = Unit {0}
AllFaults Q (x ∷ xs) = Q x.0 × AllFaults Q xs

pub faults-both : (Q : PolicyFault → Type 0) (xs ys : Checks) → AllFaults Q xs → AllFaults Q ys → AllFaults Q (xs ++ ys)
unfolding AllFaults
faults-both Q [] ys a b = b
faults-both Q (x ∷ xs) ys a b = (a.0, faults-both Q xs ys a.1 b)

pub first-tells : (Q : PolicyFault → Type 0) (xs : Checks) (f : PolicyFault) → AllFaults Q xs → FirstBroken xs f → Q f
unfolding AllFaults FirstBroken
first-tells Q [] f all first = absurd first
first-tells Q (x ∷ xs) f all (inl here) = subst Q (sym here.1) all.0
first-tells Q (x ∷ xs) f all (inr later) = first-tells Q xs f all.1 later.1
