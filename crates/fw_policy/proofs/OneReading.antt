-- A table stands for one policy at most, if it breaks no rule.
use Rattle.std.proofs.Common.{◌≡◌, ℕ, pos, List, [], ◌∷◌, get_or, drop, refl, ap, inr}
use Rattle.std.specs.List.{AllZip}
use Rattle.toml.specs.Data.{Members}
use Rattle.fw_rules.specs.Table.{NoneBroken}
use Rattle.fw_terms.specs.Policy.{TargetValue, GiveValue, RuleValue, PolicyValue}
use Rattle.fw_terms.specs.Policy.GiveValue.{fixed, proportional}
use Rattle.fw_toml.proofs.Readings.{text-one, integers_there-one, nothing_there}
use Rattle.fw_policy.specs.Policy.{from_checks, give_checks, rule_checks, rules_checks, rules_in, Gives, StandsForRule, StandsForPolicy}
use Rattle.fw_policy.specs.Parts.{weights_of}
use Rattle.fw_policy.proofs.TargetFacts.{weighed}
use Rattle.fw_policy.proofs.CheckFacts.{none-left, none-right}

same_targets : (g h : List ℕ) (v w : ℕ) (xs ys : List TargetValue) → g ≡ h → v ≡ w → xs ≡ ys → ◌≡◌ {A = List TargetValue} (record { group = g; weight = v } ∷ xs) (record { group = h; weight = w } ∷ ys)
same_targets g h v w xs ys a b c = rw (a, b, c) refl

targets_apart : (xs ys : List TargetValue) → weights_of xs ≡ weights_of ys → xs ≡ ys
targets_apart [] [] e = refl
targets_apart [] (y ∷ ys) e = absurd (cc)
targets_apart (x ∷ xs) [] e = absurd (cc)
targets_apart (x ∷ xs) (y ∷ ys) e =
    let heads : weighed x ≡ weighed y = ap (λ zs. get_or zs 0 (weighed y)) e in
    let numbers : pos x.weight ≡ pos y.weight = ap (λ z. z.1) heads in
    let weights : x.weight ≡ y.weight = cc in
    same_targets x.group y.group x.weight y.weight xs ys (ap (λ z. z.0) heads) weights (targets_apart xs ys (ap (drop 1) e))

not_both : (rule : Members) (targets : List TargetValue) → NoneBroken (give_checks rule) → Gives rule (fixed targets) → Gives rule proportional → ⊥
unfolding give_checks NoneBroken
not_both rule targets none a b = none.0 (inr (λ e. nothing_there _ _ e a, λ e. let some = b in cc))

pub give-one : (rule : Members) (g h : GiveValue) → NoneBroken (give_checks rule) → Gives rule g → Gives rule h → g ≡ h
give-one rule (fixed xs) (fixed ys) none a b = ap fixed (targets_apart xs ys (integers_there-one _ _ _ a b))
give-one rule (fixed xs) proportional none a b = absurd (not_both rule xs none a b)
give-one rule proportional (fixed ys) none a b = absurd (not_both rule ys none b a)
give-one rule proportional proportional none a b = refl

same_rule : (f g : List ℕ) (a b : GiveValue) → f ≡ g → a ≡ b → ◌≡◌ {A = RuleValue} (record { from = f; give = a }) (record { from = g; give = b })
same_rule f g a b p q = rw (p, q) refl

rule-one : (rule : Members) (x y : RuleValue) → NoneBroken (rule_checks rule) → StandsForRule rule x → StandsForRule rule y → x ≡ y
unfolding rule_checks
rule-one rule x y none a b = same_rule x.from y.from x.give y.give (text-one _ x.from y.from a.from b.from) (give-one rule x.give y.give (none-right (from_checks rule) (give_checks rule) none) a.give b.give)

pub rules-one : (tables : List Members) (xs ys : List RuleValue) → NoneBroken (rules_checks tables) → AllZip StandsForRule tables xs → AllZip StandsForRule tables ys → xs ≡ ys
rules-one [] [] [] none a b = refl
rules-one [] [] (y ∷ ys) none a b = absurd b
rules-one [] (x ∷ xs) ys none a b = absurd a
rules-one (t ∷ ts) [] ys none a b = absurd a
rules-one (t ∷ ts) (x ∷ xs) [] none a b = absurd b
rules-one (t ∷ ts) (x ∷ xs) (y ∷ ys) none a b =
    let one = rule-one t x y (none-left (rule_checks t) (rules_checks ts) none) a.0 b.0 in
    let more = rules-one ts xs ys (none-right (rule_checks t) (rules_checks ts) none) a.1 b.1 in
    rw (one, more) refl

same_policy : (k l : List ℕ) (xs ys : List RuleValue) → k ≡ l → xs ≡ ys → ◌≡◌ {A = PolicyValue} (record { key = k; rules = xs }) (record { key = l; rules = ys })
same_policy k l xs ys a b = rw (a, b) refl

pub policy-one : (ms : Members) (p q : PolicyValue) → NoneBroken (rules_checks (rules_in ms)) → StandsForPolicy ms p → StandsForPolicy ms q → p ≡ q
policy-one ms p q none a b = same_policy p.key q.key p.rules q.rules (text-one _ p.key q.key a.key b.key) (rules-one (rules_in ms) p.rules q.rules none a.rules b.rules)
