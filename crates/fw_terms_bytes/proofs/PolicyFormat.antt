-- What is read of a policy is spelled so, and what is spelled so is read.
use Rattle.std.proofs.Common.{◌≡◌, ℕ, zero, suc, ◌^◌, true, false, ◌&&◌, not, List, [], ◌∷◌, ◌++◌, length, map, Ok, Err, refl, ap, subst, arith}
use Rattle.std.specs.Int.{w64}
use Rattle.std.specs.List.{All, AllByRecursion}
use Rattle.std.specs.Str.{IsUtf8}
use Rattle.std.proofs.lemmas.Bool.{and_parts, and_from, not-true, not_from_false, ltb-true, lt-ltb, leb-true, le-leb}
use Rattle.std.proofs.lemmas.List.Elements.{All-from_recursion, recursion_from_All, All-weaker}
use Rattle.fw_bytes.specs.Spelling.{number64, text, listed, pair, Fits64, FitsText, FitsList, FitsPair, FitsChecked}
use Rattle.fw_bytes.specs.declared.fault.ReadError.{ReadError}
use Rattle.fw_bytes.specs.declared.fault.ReadError.TheVariants as errors
use Rattle.fw_bytes.specs.Reading.{Fails, checked, seen}
use Rattle.fw_bytes.proofs.Laws.{IsBytes, IsFormat, Takes, bind_ok, ok_is, checked_format, seen_format, both_format, list_format, number_format, wide64, text_format}
use Rattle.fw_bytes.proofs.Rising.{sorted_from_rise, rise_from_sorted}
use Rattle.fw_charge.specs.Spelling.{FitsTagText}
use Rattle.fw_fields.proofs.FieldFormats.{tag_text_format}
use Rattle.fw_terms.specs.Policy.{TargetValue, GiveValue, RuleValue, PolicyValue, IsTarget, IsGive, IsRule, IsPolicy, most_text, most_rules, most_targets}
use Rattle.fw_terms.specs.Policy.GiveValue.{fixed, proportional}
use Rattle.fw_terms.specs.Groups.{has_double_from, has_target_from}
use Rattle.fw_terms.specs.Spelling.{target, given, rule, policy, IsGiveUtf8, IsRuleUtf8, IsSpelledPolicy}
use Rattle.fw_terms_bytes.specs.Reading.{is_key, is_weight, key_at, weight_at, target_from, target_at, targets_at, give_at, rule_from, rule_at, rules_at, policy_from, parts_at, targets_rise, all_rise, rules_agree, policy_rules, policy_at}
use Rattle.fw_terms_bytes.proofs.Formats.{told_format}
use Rattle.fw_terms.proofs.Ranges.{count_from_list, list_from_count, text_fits, text_utf8}
use Rattle.fw_terms.proofs.GroupFacts.{once, not_twice, apart, not_given}

-- ---- single fields

abbrev FitsKey : List ℕ → Type 0
FitsKey bytes = FitsChecked is_key FitsText bytes

abbrev FitsWeight : ℕ → Type 0
FitsWeight n = FitsChecked is_weight Fits64 n

key_format : IsFormat key_at text FitsKey
unfolding key_at
key_format = checked_format is_key text_format

weight_format : IsFormat weight_at number64 FitsWeight
unfolding weight_at
weight_format = checked_format is_weight (number_format w64 (2 ^ 64) wide64)

-- ---- targets

abbrev target_to : TargetValue → List ℕ × ℕ
target_to t = (t.group, t.weight)

-- a target in its limits, whose group is UTF-8
pub record IsSpelledTarget (t : TargetValue) : Type 0 where
  limits : IsTarget t
  group : IsUtf8 t.group

target_is : (t : TargetValue) → FitsPair FitsTagText FitsWeight (target_to t) → IsSpelledTarget t
target_is t h = record { limits = record { group = leb-true _ _ h.0.1; weight = leb-true _ _ h.1.1 }; group = text_utf8 t.group h.0.0 }

target_fits : (t : TargetValue) → IsSpelledTarget t → FitsPair FitsTagText FitsWeight (target_to t)
target_fits t h = ((text_fits most_text t.group (omega arith) h.limits.group h.group, le-leb _ _ h.limits.group), (lt-ltb _ _ (let w = h.limits.weight in omega arith), le-leb _ _ h.limits.weight))

target_format : IsFormat target_at target IsSpelledTarget
unfolding target_at target
target_format = told_format target_is target_fits (seen_format target_from target_to (λ x h. refl) (λ y h. refl) (both_format tag_text_format weight_format))

targets_format : IsFormat targets_at (listed target) (FitsList 1 most_targets IsSpelledTarget)
unfolding targets_at
targets_format = list_format 1 most_targets target_format

-- ---- rules

abbrev FitsGive : GiveValue → Type 0
FitsGive (fixed targets) = FitsList 1 most_targets IsSpelledTarget targets
FitsGive proportional = Unit {0}

IsBytes-rest : (b : ℕ) (bytes : List ℕ) → IsBytes (b ∷ bytes) → IsBytes bytes
IsBytes-rest b bytes h i = h (suc i)

behind : (b : ℕ) (rest spelled after : List ℕ) → Takes rest spelled after → Takes (b ∷ rest) (b ∷ spelled) after
behind b rest spelled after t = record { parts = ap (λ (w : List ℕ). b ∷ w) t.parts; rest_fits = t.rest_fits }

fixed_takes : (rest : List ℕ) (x : GiveValue × List ℕ) → IsBytes rest → seen fixed targets_at rest ≡ Ok x → Takes (1 ∷ rest) (given x.0) x.1 × FitsGive x.0
unfolding seen given
fixed_takes rest x is e =
    let b = bind_ok (targets_at rest) (λ y. Ok (fixed y.0, y.1)) x e in
    let t = targets_format.takes rest b.0 is b.1 in
    let made : GiveValue × List ℕ = (fixed b.0.0, b.0.1) in
    subst (λ (z : GiveValue × List ℕ). Takes (1 ∷ rest) (given z.0) z.1 × FitsGive z.0) (ok_is made x b.2) (behind 1 rest (listed target b.0.0) b.0.1 t.0, t.1)

give_takes : (bytes : List ℕ) (x : GiveValue × List ℕ) → IsBytes bytes → give_at bytes ≡ Ok x → Takes bytes (given x.0) x.1 × FitsGive x.0
unfolding give_at given
give_takes [] x is e = absurd cc
give_takes (zero ∷ rest) x is e = absurd cc
give_takes (suc zero ∷ rest) x is e = fixed_takes rest x (IsBytes-rest 1 rest is) e
give_takes (suc (suc zero) ∷ rest) x is e =
    let made : GiveValue × List ℕ = (proportional, rest) in
    subst (λ (z : GiveValue × List ℕ). Takes (2 ∷ rest) (given z.0) z.1 × FitsGive z.0) (ok_is made x e) (record { parts = refl; rest_fits = IsBytes-rest 2 rest is }, tt)
give_takes (suc (suc (suc b)) ∷ rest) x is e = absurd cc

give_again : (g : GiveValue) (rest : List ℕ) → FitsGive g → give_at (given g ++ rest) ≡ Ok (g, rest)
unfolding give_at given seen
give_again (fixed targets) rest h = rw (targets_format.again targets rest h) refl
give_again proportional rest h = refl

give_format : IsFormat give_at given FitsGive
give_format = record { takes = give_takes; again = give_again }

abbrev rule_to : RuleValue → List ℕ × GiveValue
rule_to r = (r.from, r.give)

abbrev FitsRule : RuleValue → Type 0
FitsRule r = FitsPair FitsTagText FitsGive (rule_to r)

rule_format : IsFormat rule_at rule FitsRule
unfolding rule_at rule
rule_format = seen_format rule_from rule_to (λ x h. refl) (λ y h. refl) (both_format tag_text_format give_format)

rules_format : IsFormat rules_at (listed rule) (FitsList 0 most_rules FitsRule)
unfolding rules_at
rules_format = list_format 0 most_rules rule_format

-- ---- a policy

abbrev policy_to : PolicyValue → List ℕ × List RuleValue
policy_to p = (p.key, p.rules)

abbrev FitsPolicy : PolicyValue → Type 0
FitsPolicy p = FitsChecked policy_rules (λ p. FitsPair FitsKey (FitsList 0 most_rules FitsRule) (policy_to p)) p

parts_format : IsFormat parts_at (pair text (listed rule)) (FitsPair FitsKey (FitsList 0 most_rules FitsRule))
unfolding parts_at
parts_format = both_format key_format rules_format

fits_format : IsFormat policy_at policy FitsPolicy
unfolding policy_at policy
fits_format = checked_format policy_rules (seen_format policy_from policy_to (λ x h. refl) (λ y h. refl) parts_format)

-- ---- what fits is spelled, and the other way round

give_is : (g : GiveValue) → FitsGive g → targets_rise g ≡ true → IsGive g × IsGiveUtf8 g
give_is (fixed targets) h e =
    let n = count_from_list 1 most_targets IsSpelledTarget targets h in (
      record {
        some = n.some;
        few = n.few;
        each = All-weaker IsSpelledTarget IsTarget (λ t s. s.limits) targets n.each;
        rising = sorted_from_rise (map (λ t. t.group) targets) e;
      },
      All-weaker IsSpelledTarget (λ t. IsUtf8 t.group) (λ t s. s.group) targets n.each,
    )
give_is proportional h e = (tt, tt)

give_fits : (g : GiveValue) → IsGive g → IsGiveUtf8 g → FitsGive g × (targets_rise g ≡ true)
give_fits (fixed targets) h u =
    let each : All IsSpelledTarget targets = λ k d lt. record { limits = h.each k d lt; group = u k d lt } in
    (list_from_count 1 most_targets IsSpelledTarget targets (omega arith) h.some h.few each, rise_from_sorted (map (λ t. t.group) targets) h.rising)
give_fits proportional h u = (tt, refl)

-- a rule in its limits, whose texts are UTF-8
pub record IsSpelledRule (r : RuleValue) : Type 0 where
  limits : IsRule r
  texts : IsRuleUtf8 r

rule_is : (r : RuleValue) → FitsRule r → targets_rise r.give ≡ true → IsSpelledRule r
rule_is r h e =
    let g = give_is r.give h.1 e in
    record { limits = record { from = leb-true _ _ h.0.1; give = g.0 }; texts = record { from = text_utf8 r.from h.0.0; give = g.1 } }

rule_fits : (r : RuleValue) → IsSpelledRule r → FitsRule r × (targets_rise r.give ≡ true)
rule_fits r s =
    let g = give_fits r.give s.limits.give s.texts.give in
    (((text_fits most_text r.from (omega arith) s.limits.from s.texts.from, le-leb _ _ s.limits.from), g.0), g.1)

rules_are : (rules : List RuleValue) → AllByRecursion FitsRule rules → all_rise rules ≡ true → AllByRecursion IsSpelledRule rules
rules_are [] h e = tt
rules_are (r ∷ rules) h e = let p = and_parts (targets_rise r.give) (all_rise rules) e in (rule_is r h.0 p.0, rules_are rules h.1 p.1)

rules_fit : (rules : List RuleValue) → AllByRecursion IsSpelledRule rules → AllByRecursion FitsRule rules × (all_rise rules ≡ true)
rules_fit [] h = (tt, refl)
rules_fit (r ∷ rules) h =
    let first = rule_fits r h.0 in
    let others = rules_fit rules h.1 in
    ((first.0, others.0), and_from (targets_rise r.give) (all_rise rules) first.1 others.1)

policy_is : (p : PolicyValue) → FitsPolicy p → IsSpelledPolicy p
policy_is p h =
    let n = count_from_list 0 most_rules FitsRule p.rules h.0.1 in
    let rules = and_parts (all_rise p.rules) (not (has_double_from p.rules) && not (has_target_from p.rules p.rules)) h.1 in
    let groups = and_parts (not (has_double_from p.rules)) (not (has_target_from p.rules p.rules)) rules.1 in
    let key = and_parts _ _ h.0.0.1 in
    let each = All-from_recursion IsSpelledRule p.rules (rules_are p.rules h.0.1.2 rules.0) in
    record {
      limits = record {
        key_some = ltb-true _ _ key.0;
        key_short = leb-true _ _ key.1;
        few = n.few;
        rules = All-weaker IsSpelledRule IsRule (λ r s. s.limits) p.rules each;
        once = once p.rules (not-true _ groups.0);
        apart = apart p.rules (not-true _ groups.1);
      };
      key = text_utf8 p.key h.0.0.0;
      rules = All-weaker IsSpelledRule IsRuleUtf8 (λ r s. s.texts) p.rules each;
    }

policy_fits : (p : PolicyValue) → IsSpelledPolicy p → FitsPolicy p
policy_fits p s =
    let each : All IsSpelledRule p.rules = λ k d lt. record { limits = s.limits.rules k d lt; texts = s.rules k d lt } in
    let fit = rules_fit p.rules (recursion_from_All IsSpelledRule p.rules each) in
    let key : FitsKey p.key = (text_fits most_text p.key (omega arith) s.limits.key_short s.key, and_from _ _ (lt-ltb _ _ s.limits.key_some) (le-leb _ _ s.limits.key_short)) in
    let rules = list_from_count 0 most_rules FitsRule p.rules (omega arith) (omega arith) s.limits.few (All-from_recursion FitsRule p.rules fit.0) in
    ((key, rules), and_from _ _ fit.1 (and_from _ _ (not_from_false _ (not_twice p.rules s.limits.once)) (not_from_false _ (not_given p.rules s.limits.apart))))

pub policy_format : IsFormat policy_at policy IsSpelledPolicy
policy_format = told_format policy_is policy_fits fits_format

-- ---- the reader's steps

pub policy_refused : (bytes : List ℕ) (f : (List ℕ × List RuleValue) × List ℕ) → parts_at bytes ≡ Ok f → rules_agree f.0.1 ≡ false → policy_at bytes ≡ Err (length bytes)
unfolding policy_at checked seen
policy_refused bytes f e rules = rw (e, rules) refl

pub policy_taken : (bytes : List ℕ) (f : (List ℕ × List RuleValue) × List ℕ) → parts_at bytes ≡ Ok f → rules_agree f.0.1 ≡ true → policy_at bytes ≡ Ok (policy_from f.0, f.1)
unfolding policy_at checked seen
policy_taken bytes f e rules = rw (e, rules) refl

pub policy_kept : (bytes : List ℕ) (f : (List ℕ × List RuleValue) × List ℕ) → IsBytes bytes → parts_at bytes ≡ Ok f → rules_agree f.0.1 ≡ true → IsPolicy (policy_from f.0)
policy_kept bytes f is e rules = (policy_format.takes bytes (policy_from f.0, f.1) is (policy_taken bytes f e rules)).1.limits

policy_fault : (bytes : List ℕ) (left : ℕ) → parts_at bytes ≡ Err left → policy_at bytes ≡ Err left
unfolding policy_at checked seen
policy_fault bytes left e = rw e refl

pub policy_fails : (bytes : List ℕ) (e : ReadError) → Fails e (parts_at bytes) → Fails e (policy_at bytes)
policy_fails bytes errors.NoMemory h = tt
policy_fails bytes (errors.Corrupt left) h = policy_fault bytes left h
