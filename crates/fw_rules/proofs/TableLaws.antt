-- How the first fault of a table is shown, and that it is one.
use Rattle.std.proofs.Common.{◌≡◌, List, [], ◌∷◌, refl, sym, ◌∙◌, inl, inr}
use Rattle.fw_rules.specs.Table.{FirstBroken, NoneBroken}

-- the first rule is broken
pub first-here : {F : Type 0} (f : F) (B : Type 0) (rules : List (F × Type 0)) → B → FirstBroken ((f, B) ∷ rules) f
unfolding FirstBroken
first-here f B rules b = inl (b, refl)

-- the first rule holds, and the first broken one is in the rest
pub first-later : {F : Type 0} (g : F) (B : Type 0) (rules : List (F × Type 0)) (f : F) → ¬ B → FirstBroken rules f → FirstBroken ((g, B) ∷ rules) f
unfolding FirstBroken
first-later g B rules f holds later = inr (holds, later)

-- a table without rules
pub none-end : (F : Type 0) → NoneBroken {F = F} []
unfolding NoneBroken
none-end F = tt

-- the first rule holds, and so do the others
pub none-more : {F : Type 0} (g : F) (B : Type 0) (rules : List (F × Type 0)) → ¬ B → NoneBroken rules → NoneBroken ((g, B) ∷ rules)
unfolding NoneBroken
none-more g B rules holds others = (holds, others)

-- at most one fault is first
pub first-one : {F : Type 0} (rules : List (F × Type 0)) (f g : F) → FirstBroken rules f → FirstBroken rules g → f ≡ g
unfolding FirstBroken
first-one [] f g a b = absurd a
first-one (r ∷ rules) f g (inl a) (inl b) = a.1 ∙ sym b.1
first-one (r ∷ rules) f g (inl a) (inr b) = absurd (b.0 a.0)
first-one (r ∷ rules) f g (inr a) (inl b) = absurd (a.0 b.0)
first-one (r ∷ rules) f g (inr a) (inr b) = first-one rules f g a.1 b.1

-- where a fault is first, some rule is broken
pub first-not_none : {F : Type 0} (rules : List (F × Type 0)) (f : F) → FirstBroken rules f → ¬ NoneBroken rules
unfolding FirstBroken NoneBroken
first-not_none [] f a n = absurd a
first-not_none (r ∷ rules) f (inl a) n = n.0 a.0
first-not_none (r ∷ rules) f (inr a) n = first-not_none rules f a.1 n.1
