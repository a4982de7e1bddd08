-- The rules of a policy's document.
use Rattle.std.proofs.Common.{◌≡◌, ◌≢◌, ◌⊎◌, ℕ, zero, suc, List, [], ◌∷◌, ◌++◌, Option, Some, None, codes, append_assoc, append-nil, refl, sym, ◌∙◌, ap, inl, inr, subst, arith}
use Rattle.std.specs.List.{All, AllZip}
use Rattle.std.proofs.lemmas.List.Elements.{All-append}
use Rattle.toml.specs.Data.{Data, Members}
use Rattle.fw_rules.specs.Table.{FirstBroken, NoneBroken}
use Rattle.fw_terms.specs.Policy.{TargetValue, RuleValue, IsRule}
use Rattle.fw_terms.specs.Policy.GiveValue.{fixed, proportional}
use Rattle.fw_toml.specs.Tree.{at, truth}
use Rattle.fw_toml.proofs.Readings.{there, absent, present, of_present}
use Rattle.fw_policy.specs.Policy.{from_checks, give_checks, rule_checks, rules_checks, StandsForRule}
use Rattle.fw_policy.specs.Parts.{IsFault, to_checks, AreTargetsOf, IsGiven, IsFrom, IsRuleOf, AreRulesOf}
use Rattle.fw_policy.specs.declared.fault.PolicyField.TheVariants as field
use Rattle.fw_policy.specs.declared.fault.PolicyFault.{PolicyFault}
use Rattle.fw_policy.specs.declared.fault.PolicyFault.TheVariants as fault
use Rattle.fw_policy.proofs.CheckFacts.{none-both, none-left, none-right, first-in, fault-in, fault-after}

-- ---- what a rule gives

one_of : (a b : Option Data) (d : Data) → a ≡ Some d → b ≡ None → ¬ (((a ≡ None) × (b ≡ None)) ⊎ ((a ≢ None) × (b ≢ None)))
one_of a b d some none (inl both) = let x = both.0 in cc
one_of a b d some none (inr both) = both.1 none

other_one_of : (a b : Option Data) (d : Data) → a ≡ None → b ≡ Some d → ¬ (((a ≡ None) × (b ≡ None)) ⊎ ((a ≢ None) × (b ≢ None)))
other_one_of a b d none some (inl both) = let x = both.1 in cc
other_one_of a b d none some (inr both) = both.0 none

pub neither : (rule : Members) → at rule (codes "to") ≡ None → at rule (codes "proportional") ≡ None → IsFault (give_checks rule) (fault.Field field.Rule)
unfolding give_checks FirstBroken
neither rule to part = inr (inl (inl (to, part), refl))

pub both : (rule : Members) (d e : Data) → at rule (codes "to") ≡ Some d → at rule (codes "proportional") ≡ Some e → IsFault (give_checks rule) (fault.Field field.Rule)
unfolding give_checks FirstBroken
both rule d e to part = inr (inl (inr (λ none. let some = to in cc, λ none. let some = part in cc), refl))

first_to : (rule : Members) (d : Data) (f : PolicyFault) → at rule (codes "to") ≡ Some d → at rule (codes "proportional") ≡ None → FirstBroken (to_checks d) f → FirstBroken (give_checks rule) f
unfolding give_checks to_checks FirstBroken
first_to rule d f to part (inl kind) = inr (one_of _ _ d to part, inl (λ h. kind.0 (of_present _ _ d to h), kind.1))
first_to rule d f to part (inr (kind, inl size)) = inr (one_of _ _ d to part, inr (λ bad. kind (λ h. bad (present _ _ d to h)), inl (λ h. size.0 (of_present _ _ d to h), size.1)))
first_to rule d f to part (inr (kind, inr later)) = absurd later.1

pub to_fault : (rule : Members) (d : Data) (f : PolicyFault) → at rule (codes "to") ≡ Some d → at rule (codes "proportional") ≡ None → IsFault (to_checks d) f → IsFault (give_checks rule) f
to_fault rule d f to part (inl memory) = inl memory
to_fault rule d f to part (inr first) = inr (first_to rule d f to part first)

pub to_given : (rule : Members) (d : Data) (targets : List TargetValue) → at rule (codes "to") ≡ Some d → at rule (codes "proportional") ≡ None → AreTargetsOf d targets → IsGiven rule (fixed targets)
unfolding give_checks to_checks NoneBroken
to_given rule d targets to part are = record {
  gives = there _ _ d to are.are;
  kept = are.kept;
  unbroken = (
    one_of _ _ d to part,
    (
      λ bad. are.unbroken.0 (λ h. bad (present _ _ d to h)),
      (λ bad. are.unbroken.1.0 (λ h. bad (present _ _ d to h)), (λ bad. bad (absent _ _ part), tt)),
    ),
  );
}

pub proportion_given : (rule : Members) (d : Data) → at rule (codes "to") ≡ None → at rule (codes "proportional") ≡ Some d → d ≡ truth → IsGiven rule proportional
unfolding give_checks NoneBroken
proportion_given rule d to part is = record {
  gives = part ∙ ap Some is;
  kept = tt;
  unbroken = (other_one_of _ _ d to part, (λ bad. bad (absent _ _ to), (λ bad. bad (absent _ _ to), (λ bad. bad (present _ _ d part is), tt))));
}

pub proportion_fault : (rule : Members) (d : Data) → at rule (codes "to") ≡ None → at rule (codes "proportional") ≡ Some d → ¬ (d ≡ truth) → IsFault (give_checks rule) (fault.Field field.Proportional)
unfolding give_checks FirstBroken
proportion_fault rule d to part other =
    inr (inr (other_one_of _ _ d to part, inr (λ bad. bad (absent _ _ to), inr (λ bad. bad (absent _ _ to), inl (λ h. other (of_present _ _ d part h), refl)))))

-- ---- a rule

pub from_fault : (rule : Members) (f : PolicyFault) → FirstBroken (from_checks rule) f → IsFault (rule_checks rule) f
unfolding rule_checks
from_fault rule f first = inr (first-in (from_checks rule) (give_checks rule) f first)

pub give_fault : (rule : Members) (from : List ℕ) (f : PolicyFault) → IsFrom rule from → IsFault (give_checks rule) f → IsFault (rule_checks rule) f
unfolding rule_checks
give_fault rule from f is bad = fault-after (from_checks rule) (give_checks rule) f is.unbroken bad

pub rule_is : (rule : Members) (r : RuleValue) → IsFrom rule r.from → IsGiven rule r.give → IsRuleOf rule r
unfolding rule_checks
rule_is rule r from give = record {
  stands = record { from = from.is; give = give.gives };
  kept = record { from = from.short; give = give.kept };
  unbroken = none-both (from_checks rule) (give_checks rule) from.unbroken give.unbroken;
}

-- ---- rule after rule

-- the rules of the first of the tables
pub record Read (tables : List Members) (rules : List RuleValue) (left : List Members) : Type 0 where
  pub done : List Members
  pub whole : tables ≡ done ++ left
  pub are : AreRulesOf done rules

pub read-start : (tables : List Members) → Read tables [] tables
unfolding NoneBroken
read-start tables = record { done = []; whole = refl; are = record { stand = tt; kept = λ k d lt. absurd (omega arith); unbroken = tt } }

one : (P : RuleValue → Type 0) (r : RuleValue) → P r → All P (r ∷ [])
one P r here zero d lt = here
one P r here (suc j) d lt = absurd (omega arith)

zip_more : (ts : List Members) (rs : List RuleValue) (t : Members) (r : RuleValue) → AllZip StandsForRule ts rs → StandsForRule t r → AllZip StandsForRule (ts ++ t ∷ []) (rs ++ r ∷ [])
zip_more [] [] t r all here = (here, tt)
zip_more [] (s ∷ rs) t r all here = absurd all
zip_more (u ∷ ts) [] t r all here = absurd all
zip_more (u ∷ ts) (s ∷ rs) t r all here = (all.0, zip_more ts rs t r all.1 here)

none_more : (ts : List Members) (t : Members) → NoneBroken (rules_checks ts) → NoneBroken (rule_checks t) → NoneBroken (rules_checks (ts ++ t ∷ []))
unfolding NoneBroken
none_more [] t all here = none-both (rule_checks t) [] here tt
none_more (u ∷ ts) t all here =
    none-both (rule_checks u) (rules_checks (ts ++ t ∷ [])) (none-left (rule_checks u) (rules_checks ts) all) (none_more ts t (none-right (rule_checks u) (rules_checks ts) all) here)

pub read-more : (tables : List Members) (rules : List RuleValue) (left more : List Members) (t : Members) (r : RuleValue) → Read tables rules left → left ≡ t ∷ more → IsRuleOf t r → Read tables (rules ++ r ∷ []) more
read-more tables rules left more t r so_far next is = record {
  done = so_far.done ++ t ∷ [];
  whole = so_far.whole ∙ (ap (λ ts. so_far.done ++ ts) next ∙ sym (append_assoc so_far.done (t ∷ []) more));
  are = record {
    stand = zip_more so_far.done rules t r so_far.are.stand is.stands;
    kept = All-append IsRule rules (r ∷ []) so_far.are.kept (one IsRule r is.kept);
    unbroken = none_more so_far.done t so_far.are.unbroken is.unbroken;
  };
}

fault_later : (ts : List Members) (t : Members) (more : List Members) (f : PolicyFault) → NoneBroken (rules_checks ts) → IsFault (rule_checks t) f → IsFault (rules_checks (ts ++ t ∷ more)) f
fault_later [] t more f none bad = fault-in (rule_checks t) (rules_checks more) f bad
fault_later (u ∷ ts) t more f none bad =
    fault-after (rule_checks u) (rules_checks (ts ++ t ∷ more)) f (none-left (rule_checks u) (rules_checks ts) none) (fault_later ts t more f (none-right (rule_checks u) (rules_checks ts) none) bad)

pub read-fault : (tables : List Members) (rules : List RuleValue) (left more : List Members) (t : Members) (f : PolicyFault) → Read tables rules left → left ≡ t ∷ more → IsFault (rule_checks t) f → IsFault (rules_checks tables) f
read-fault tables rules left more t f so_far next bad =
    let split = so_far.whole ∙ ap (λ ts. so_far.done ++ ts) next in
    subst (λ ts. IsFault (rules_checks ts) f) (sym split) (fault_later so_far.done t more f so_far.are.unbroken bad)

pub read-all : (tables : List Members) (rules : List RuleValue) (left : List Members) → Read tables rules left → left ≡ [] → AreRulesOf tables rules
read-all tables rules left so_far none =
    let same = so_far.whole ∙ (ap (λ ts. so_far.done ++ ts) none ∙ append-nil so_far.done) in
    subst (λ ts. AreRulesOf ts rules) (sym same) so_far.are
