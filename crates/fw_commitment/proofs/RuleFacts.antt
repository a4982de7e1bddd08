-- The rules of fields, one after another.
use Rattle.std.proofs.Common.{◌≢◌, List, [], ◌∷◌, ◌++◌, refl, inl, inr}
use Rattle.fw_rules.specs.Table.{FirstBroken, NoneBroken}
use Rattle.fw_commitment.specs.Rules.{Rule, field_rule, field_rules, only_where}
use Rattle.fw_commitment.specs.declared.fault.CommitmentField.{CommitmentField}
use Rattle.fw_commitment.specs.declared.fault.CommitmentFault.{CommitmentFault}
use Rattle.fw_commitment.specs.declared.fault.CommitmentFault.TheVariants as fault

-- ---- a field with a limit

pub field-fits : {X : Type 0} (f : CommitmentField) (Has IsWithin : X → Type 0) (x : X) → Has x → IsWithin x → NoneBroken (field_rules f Has IsWithin)
unfolding NoneBroken
field-fits f Has IsWithin x has within = (λ none. none (x, has), (λ none. none (x, has, within), tt))

pub field-missing : {X : Type 0} (f : CommitmentField) (Has IsWithin : X → Type 0) → ((x : X) → ¬ Has x) → FirstBroken (field_rules f Has IsWithin) (fault.Field f)
unfolding FirstBroken
field-missing f Has IsWithin none = inl (λ p. none p.0 p.1, refl)

pub field-over : {X : Type 0} (f : CommitmentField) (Has IsWithin : X → Type 0) (x : X) → Has x → ((y : X) → Has y → ¬ IsWithin y) → FirstBroken (field_rules f Has IsWithin) (fault.Limit f)
unfolding FirstBroken
field-over f Has IsWithin x has over = inr (λ none. none (x, has), inl (λ p. over p.0 p.1 p.2, refl))

-- ---- a field without a limit

pub alone-fits : {X : Type 0} (f : CommitmentField) (Has : X → Type 0) (x : X) → Has x → NoneBroken (field_rule f Has)
unfolding NoneBroken
alone-fits f Has x has = (λ none. none (x, has), tt)

pub alone-missing : {X : Type 0} (f : CommitmentField) (Has : X → Type 0) → ((x : X) → ¬ Has x) → FirstBroken (field_rule f Has) (fault.Field f)
unfolding FirstBroken
alone-missing f Has none = inl (λ p. none p.0 p.1, refl)

-- ---- rules and more rules

pub first-append : (xs ys : List Rule) (f : CommitmentFault) → FirstBroken xs f → FirstBroken (xs ++ ys) f
unfolding FirstBroken
first-append [] ys f first = absurd first
first-append (x ∷ xs) ys f (inl here) = inl here
first-append (x ∷ xs) ys f (inr later) = inr (later.0, first-append xs ys f later.1)

pub append-first : (xs ys : List Rule) (f : CommitmentFault) → NoneBroken xs → FirstBroken ys f → FirstBroken (xs ++ ys) f
unfolding FirstBroken NoneBroken
append-first [] ys f none first = first
append-first (x ∷ xs) ys f none first = inr (none.0, append-first xs ys f none.1 first)

pub none-append : (xs ys : List Rule) → NoneBroken xs → NoneBroken ys → NoneBroken (xs ++ ys)
unfolding NoneBroken
none-append [] ys none nor = nor
none-append (x ∷ xs) ys none nor = (none.0, none-append xs ys none.1 nor)

-- ---- rules that count only where P holds

pub first-where : (P : Type 0) (rules : List Rule) (f : CommitmentFault) → P → FirstBroken rules f → FirstBroken (only_where P rules) f
unfolding FirstBroken
first-where P [] f holds first = absurd first
first-where P (r ∷ rules) f holds (inl here) = inl ((holds, here.0), here.1)
first-where P (r ∷ rules) f holds (inr later) = inr (λ both. later.0 both.1, first-where P rules f holds later.1)

pub none-where : (P : Type 0) (rules : List Rule) → NoneBroken rules → NoneBroken (only_where P rules)
unfolding NoneBroken
none-where P [] none = tt
none-where P (r ∷ rules) none = (λ both. none.0 both.1, none-where P rules none.1)

pub none-nowhere : (P : Type 0) (rules : List Rule) → ¬ P → NoneBroken (only_where P rules)
unfolding NoneBroken
none-nowhere P [] not = tt
none-nowhere P (r ∷ rules) not = (λ both. not both.0, none-nowhere P rules not)

-- ---- what is found by rules and more rules

-- the fault is one of the first rules
pub fault-here : (xs ys : List Rule) (f : CommitmentFault) → (f ≢ fault.NoMemory → FirstBroken xs f) → f ≢ fault.NoMemory → FirstBroken (xs ++ ys) f
fault-here xs ys f first other = first-append xs ys f (first other)

-- the first rules hold, and the fault is one of the others
pub fault-later : (xs ys : List Rule) (f : CommitmentFault) → NoneBroken xs → (f ≢ fault.NoMemory → FirstBroken ys f) → f ≢ fault.NoMemory → FirstBroken (xs ++ ys) f
fault-later xs ys f none first other = append-first xs ys f none (first other)
