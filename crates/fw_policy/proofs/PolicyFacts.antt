-- What a table reads as.
use Rattle.std.proofs.Common.{◌≡◌, List, [], ◌∷◌, ◌++◌, ℕ, Ok, Err, refl, sym, ap, inl, inr, subst, length, arith}
use Rattle.std.specs.List.{All, Any, AllZip, Contains}
use Rattle.toml.specs.Data.{Members}
use Rattle.fw_rules.specs.Table.{FirstBroken, NoneBroken}
use Rattle.fw_terms.specs.Texts.{HasTwice}
use Rattle.fw_terms.proofs.GroupFacts.{all_not}
use Rattle.fw_terms.specs.Policy.{RuleValue, IsPolicy, froms, targets_of, policy_value}
use Rattle.fw_toml.specs.Tree.{HasOnly}
use Rattle.fw_policy.specs.Policy.{key_checks, array_checks, rules_checks, unknown_checks, group_checks, policy_checks, policy_fields, rule_fields, rules_in, StandsForRule, StandForRules}
use Rattle.fw_policy.specs.Parts.{IsFault, IsKey, AreRuleTables, AreRulesOf, TableGives}
use Rattle.fw_policy.specs.declared.fault.PolicyField.TheVariants as field
use Rattle.fw_policy.specs.declared.fault.PolicyFault.{PolicyFault}
use Rattle.fw_policy.specs.declared.fault.PolicyFault.TheVariants as fault
use Rattle.fw_policy.proofs.CheckFacts.{none-both, first-in, first-after, fault-in, fault-after}
use Rattle.fw_policy.proofs.OneReading.{rules-one}

pub gives_fault : (ms : Members) (f : PolicyFault) → IsFault (policy_checks ms) f → TableGives ms (Err f)
gives_fault ms f (inl memory) = inl (ap (λ x. Err x) memory)
gives_fault ms f (inr first) = inr first

pub key_fault : (ms : Members) (f : PolicyFault) → FirstBroken (key_checks ms) f → TableGives ms (Err f)
unfolding policy_checks
key_fault ms f first = inr (first-in (key_checks ms) (array_checks ms ++ (rules_checks (rules_in ms) ++ (unknown_checks ms ++ group_checks ms))) f first)

pub array_fault : (ms : Members) (key : List ℕ) (f : PolicyFault) → IsKey ms key → IsFault (array_checks ms) f → TableGives ms (Err f)
unfolding policy_checks
array_fault ms key f is bad =
    gives_fault ms f (fault-after (key_checks ms) _ f is.unbroken (fault-in (array_checks ms) (rules_checks (rules_in ms) ++ (unknown_checks ms ++ group_checks ms)) f bad))

-- the key and the tables of the rules are these
pub record HasTables (ms : Members) (key : List ℕ) (tables : List Members) : Type 0 where
  pub is_key : IsKey ms key
  pub are_tables : AreRuleTables ms tables

pub rules_fault : (ms : Members) (key : List ℕ) (tables : List Members) (f : PolicyFault) → HasTables ms key tables → IsFault (rules_checks tables) f → TableGives ms (Err f)
unfolding policy_checks
rules_fault ms key tables f has bad =
    let here = subst (λ ts. IsFault (rules_checks ts) f) (sym has.are_tables.are) bad in
    gives_fault ms f (fault-after (key_checks ms) _ f has.is_key.unbroken (fault-after (array_checks ms) _ f has.are_tables.unbroken (fault-in (rules_checks (rules_in ms)) (unknown_checks ms ++ group_checks ms) f here)))

-- and so are the rules
pub record HasRules (ms : Members) (key : List ℕ) (tables : List Members) (rules : List RuleValue) : Type 0 where
  pub has : HasTables ms key tables
  pub are_rules : AreRulesOf tables rules

unbroken_rules : (ms : Members) (key : List ℕ) (tables : List Members) (rules : List RuleValue) → HasRules ms key tables rules → NoneBroken (rules_checks (rules_in ms))
unbroken_rules ms key tables rules has = subst (λ ts. NoneBroken (rules_checks ts)) (sym has.has.are_tables.are) has.are_rules.unbroken

stand : (ms : Members) (key : List ℕ) (tables : List Members) (rules : List RuleValue) → HasRules ms key tables rules → StandForRules ms rules
stand ms key tables rules has = subst (λ ts. AllZip StandsForRule ts rules) (sym has.has.are_tables.are) has.are_rules.stand

end_fault : (ms : Members) (key : List ℕ) (tables : List Members) (rules : List RuleValue) (f : PolicyFault) → HasRules ms key tables rules → FirstBroken (unknown_checks ms ++ group_checks ms) f → TableGives ms (Err f)
unfolding policy_checks
end_fault ms key tables rules f has first =
    inr (first-after (key_checks ms) _ f has.has.is_key.unbroken (first-after (array_checks ms) _ f has.has.are_tables.unbroken (first-after (rules_checks (rules_in ms)) _ f (unbroken_rules ms key tables rules has) first)))

pub unknown_fault : (ms : Members) (key : List ℕ) (tables : List Members) (rules : List RuleValue) → HasRules ms key tables rules → ¬ (HasOnly policy_fields ms × All (HasOnly rule_fields) tables)
    → TableGives ms (Err (fault.Field field.Unknown))
unfolding unknown_checks FirstBroken
unknown_fault ms key tables rules has other =
    end_fault ms key tables rules (fault.Field field.Unknown) has (inl (subst (λ ts. ¬ (HasOnly policy_fields ms × All (HasOnly rule_fields) ts)) (sym has.has.are_tables.are) other, refl))

none_unknown : (ms : Members) (tables : List Members) → rules_in ms ≡ tables → HasOnly policy_fields ms → All (HasOnly rule_fields) tables → NoneBroken (unknown_checks ms)
unfolding unknown_checks NoneBroken
none_unknown ms tables are only each = (λ bad. bad (only, subst (All (HasOnly rule_fields)) (sym are) each), tt)

-- and no field is unknown
pub record HasAll (ms : Members) (key : List ℕ) (tables : List Members) (rules : List RuleValue) : Type 0 where
  pub has : HasRules ms key tables rules
  pub only : HasOnly policy_fields ms
  pub each : All (HasOnly rule_fields) tables

group_fault : (ms : Members) (key : List ℕ) (tables : List Members) (rules : List RuleValue) (f : PolicyFault) → HasAll ms key tables rules → FirstBroken (group_checks ms) f → TableGives ms (Err f)
group_fault ms key tables rules f has first =
    end_fault ms key tables rules f has.has (first-after (unknown_checks ms) _ f (none_unknown ms tables has.has.has.are_tables.are has.only has.each) first)

pub double_fault : (ms : Members) (key : List ℕ) (tables : List Members) (rules : List RuleValue) → HasAll ms key tables rules → HasTwice (froms rules) → TableGives ms (Err fault.DoubleFrom)
unfolding group_checks FirstBroken
double_fault ms key tables rules has twice = group_fault ms key tables rules fault.DoubleFrom has (inl ((rules, stand ms key tables rules has.has, twice), refl))

no_double : (ms : Members) (key : List ℕ) (tables : List Members) (rules : List RuleValue) → HasAll ms key tables rules → ¬ HasTwice (froms rules) → ¬ ((others : List RuleValue) × StandForRules ms others × HasTwice (froms others))
no_double ms key tables rules has once (others, stands, twice) =
    let same = rules-one (rules_in ms) others rules (unbroken_rules ms key tables rules has.has) stands (stand ms key tables rules has.has) in
    once (subst (λ rs. HasTwice (froms rs)) same twice)

pub target_fault : (ms : Members) (key : List ℕ) (tables : List Members) (rules : List RuleValue) → HasAll ms key tables rules → ¬ HasTwice (froms rules) → Any (λ g. Contains (froms rules) g) (targets_of rules)
    → TableGives ms (Err fault.TargetIsFrom)
unfolding group_checks FirstBroken
target_fault ms key tables rules has once any =
    group_fault ms key tables rules fault.TargetIsFrom has (inr (no_double ms key tables rules has once, inl ((rules, stand ms key tables rules has.has, any), refl)))

no_target : (ms : Members) (key : List ℕ) (tables : List Members) (rules : List RuleValue) → HasAll ms key tables rules → ¬ Any (λ g. Contains (froms rules) g) (targets_of rules)
    → ¬ ((others : List RuleValue) × StandForRules ms others × Any (λ g. Contains (froms others) g) (targets_of others))
no_target ms key tables rules has apart (others, stands, any) =
    let same = rules-one (rules_in ms) others rules (unbroken_rules ms key tables rules has.has) stands (stand ms key tables rules has.has) in
    apart (subst (λ rs. Any (λ g. Contains (froms rs) g) (targets_of rs)) same any)

none_group : (ms : Members) (key : List ℕ) (tables : List Members) (rules : List RuleValue) → HasAll ms key tables rules → ¬ HasTwice (froms rules) → ¬ Any (λ g. Contains (froms rules) g) (targets_of rules) → NoneBroken (group_checks ms)
unfolding group_checks NoneBroken
none_group ms key tables rules has once apart = (no_double ms key tables rules has once, (no_target ms key tables rules has apart, tt))

pub policy_is : (ms : Members) (key : List ℕ) (tables : List Members) (rules : List RuleValue) → HasAll ms key tables rules → ¬ HasTwice (froms rules) → ¬ Any (λ g. Contains (froms rules) g) (targets_of rules)
    → TableGives ms (Ok (policy_value key rules))
unfolding policy_checks
policy_is ms key tables rules has once apart =
    inr (
      none-both (key_checks ms) _ has.has.has.is_key.unbroken
          (none-both (array_checks ms) _ has.has.has.are_tables.unbroken
          (none-both (rules_checks (rules_in ms)) _ (unbroken_rules ms key tables rules has.has)
          (none-both (unknown_checks ms) _ (none_unknown ms tables has.has.has.are_tables.are has.only has.each) (none_group ms key tables rules has once apart)))),
      record { key = has.has.has.is_key.is; rules = stand ms key tables rules has.has },
    )

-- the policy keeps its limits
zip_long : (ts : List Members) (rs : List RuleValue) → AllZip StandsForRule ts rs → length rs ≡ length ts
zip_long [] [] h = refl
zip_long [] (r ∷ rs) h = absurd h
zip_long (t ∷ ts) [] h = absurd h
zip_long (t ∷ ts) (r ∷ rs) h = omega (arith, zip_long ts rs h.1)

pub policy_kept : (ms : Members) (key : List ℕ) (tables : List Members) (rules : List RuleValue) → HasRules ms key tables rules → ¬ HasTwice (froms rules) → ¬ Any (λ g. Contains (froms rules) g) (targets_of rules)
    → IsPolicy (policy_value key rules)
policy_kept ms key tables rules has once apart = record {
  key_some = has.has.is_key.some;
  key_short = has.has.is_key.short;
  few = let long = zip_long tables rules has.are_rules.stand in let few_ = has.has.are_tables.few in omega arith;
  rules = has.are_rules.kept;
  once = once;
  apart = all_not (λ g. Contains (froms rules) g) (targets_of rules) apart;
}
