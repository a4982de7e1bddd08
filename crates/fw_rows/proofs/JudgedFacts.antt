-- The rules of a part among the rules of a whole.
use Rattle.std.proofs.Common.{◌≡◌, ℕ, List, [], ◌∷◌, ◌++◌, Err, inl, inr, refl}
use Rattle.fw_rules.specs.Table.{FirstBroken, NoneBroken}
use Rattle.fw_rows.specs.Judged.{JudgedWithin}
use Rattle.fw_rows.specs.Parts.{charged_rules, detail_rules, discount_rules}
use Rattle.fw_rows.specs.Rules.{Rule, Texts, text_rules, word_rules, cost_rules, period_rules, kind_rules, status_rules, quantity_rules, length_rules}
use Rattle.fw_rows.specs.declared.fault.Refusal.{Refusal}
use Rattle.fw_rows.specs.declared.fault.Refusal.TheVariants as refusal
use Rattle.fw_rows.specs.declared.fault.RecordFault.{RecordFault}

-- the first broken rule is among the first rules
pub first-front : (front back : List Rule) (f : RecordFault) → FirstBroken front f → FirstBroken (front ++ back) f
unfolding FirstBroken
first-front [] back f first = absurd first
first-front (r ∷ front) back f (inl here) = inl here
first-front (r ∷ front) back f (inr later) = inr (later.0, first-front front back f later.1)

-- none of the first rules is broken
pub first-back : (front back : List Rule) (f : RecordFault) → NoneBroken front → FirstBroken back f → FirstBroken (front ++ back) f
unfolding FirstBroken NoneBroken
first-back [] back f none first = first
first-back (r ∷ front) back f none first = inr (none.0, first-back front back f none.1 first)

pub none-both : (front back : List Rule) → NoneBroken front → NoneBroken back → NoneBroken (front ++ back)
unfolding NoneBroken
none-both [] back none others = others
none-both (r ∷ front) back none others = (none.0, none-both front back none.1 others)

-- what the last rules say, where none of the first is broken
pub within-back : {A B : Type 0} (front back : List Rule) (P : A → Type 0) (Q : B → Type 0) (e : Refusal) → NoneBroken front → JudgedWithin back P (Err e) → JudgedWithin (front ++ back) Q (Err e)
within-back front back P Q (refusal.Broken f) none first = first-back front back f none first
within-back front back P Q refusal.NoMemory none want = tt

-- the rules of the texts are those of what is charged, and then those of what it is charged for
pub rules_parted : (currency : List ℕ) (at : Texts) → text_rules currency at ≡ charged_rules currency at ++ detail_rules at
unfolding text_rules charged_rules detail_rules discount_rules word_rules cost_rules period_rules kind_rules status_rules quantity_rules length_rules
rules_parted currency at = refl
