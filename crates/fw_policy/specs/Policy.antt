-- What a TOML text reads as: its policy, or its first fault.
use Rattle.std.specs.Prelude.{◌≡◌, ◌≢◌, ◌⊎◌, ◌<◌, ◌≤◌, ℕ, ℤ, pos, List, [], ◌∷◌, ◌++◌, map, length, All, Any, Contains, Some, None, Result, Ok, Err, codes, ⊤}
use Rattle.std.specs.List.{AllZip}
use Rattle.toml.specs.Data.{Data, Members, string}
use Rattle.fw_rules.specs.Table.{FirstBroken, NoneBroken}
use Rattle.fw_terms.specs.Texts.{HasTwice}
use Rattle.fw_terms.specs.Policy.{GiveValue, RuleValue, PolicyValue, most_text, most_rules, most_targets, most_weight, froms, targets_of}
use Rattle.fw_terms.specs.Policy.GiveValue.{fixed, proportional}
use Rattle.fw_toml.specs.Tree.{IsTable, at, IsThere, IsAbsentOr, IsText, IsInteger, IsTableOf, IsArrayOf, Anything, truth, HasOnly, AreIntegers, members_list, tables_of}
use Rattle.fw_policy.specs.declared.fault.PolicyField.TheVariants as field
use Rattle.fw_policy.specs.declared.fault.PolicyFault.{PolicyFault}
use Rattle.fw_policy.specs.declared.fault.PolicyFault.TheVariants as fault

-- rules that a table is held against, in order: a fault, and when the rule that gives it is broken
abbrev pub Checks : Type 1
Checks = List (PolicyFault × Type 0)

-- the tag key: a text that is neither empty nor too long
unfoldable pub key_checks : Members → Checks
key_checks ms = let key = at ms (codes "key") in
    (fault.Field field.Key, ¬ IsThere key (IsText Anything))
    ∷ (fault.Limit field.Key, ¬ IsThere key (IsText (λ t. (0 < length t) × (length t ≤ most_text))))
    ∷ []

-- the tables of the array `rule`, in order
abbrev pub rules_in : Members → List Members
rules_in ms = tables_of (at ms (codes "rule"))

-- the rules, which may be absent: an array of tables, not too many
unfoldable pub array_checks : Members → Checks
array_checks ms =
    (fault.Field field.Rule, ¬ IsAbsentOr (at ms (codes "rule")) (IsArrayOf (All (IsTableOf Anything))))
    ∷ (fault.Limit field.Rule, most_rules < length (rules_in ms))
    ∷ []

-- the group that gives away: a text, which may be empty and is not too long
unfoldable pub from_checks : Members → Checks
from_checks rule = let from = at rule (codes "from") in
    (fault.Field field.From, ¬ IsThere from (IsText Anything))
    ∷ (fault.Limit field.From, ¬ IsThere from (IsText (λ t. length t ≤ most_text)))
    ∷ []

-- a weight: a natural number that is not too great
unfoldable pub IsWeight : ℤ → Type 0
IsWeight z = (weight : ℕ) × (z ≡ pos weight) × (weight ≤ most_weight)

-- one group or more, not too many and none too long, each with a weight
unfoldable pub AreWeights : List (List ℕ × Data) → Type 0
AreWeights ms = (0 < length ms) × (length ms ≤ most_targets) × All (λ m. (length m.0 ≤ most_text) × IsInteger IsWeight m.1) ms

-- one of `to` and `proportional`, and not both: a table of groups with their weights, or `true`
unfoldable pub give_checks : Members → Checks
give_checks rule = let to = at rule (codes "to") in let proportion = at rule (codes "proportional") in
    (fault.Field field.Rule, ((to ≡ None) × (proportion ≡ None)) ⊎ ((to ≢ None) × (proportion ≢ None)))
    ∷ (fault.Field field.To, ¬ IsAbsentOr to (IsTableOf (λ ms. All (λ m. IsInteger Anything m.1) (members_list ms))))
    ∷ (fault.Limit field.To, ¬ IsAbsentOr to (IsTableOf (λ ms. AreWeights (members_list ms))))
    ∷ (fault.Field field.Proportional, ¬ IsAbsentOr proportion (λ d. d ≡ truth))
    ∷ []

unfoldable pub rule_checks : Members → Checks
rule_checks rule = from_checks rule ++ give_checks rule

-- of each rule in turn
abbrev pub rules_checks : List Members → Checks
rules_checks [] = []
rules_checks (rule ∷ rules) = rule_checks rule ++ rules_checks rules

-- the fields of a policy and of a rule
unfoldable pub policy_fields : List (List ℕ)
policy_fields = codes "key" ∷ codes "rule" ∷ []

unfoldable pub rule_fields : List (List ℕ)
rule_fields = codes "from" ∷ codes "to" ∷ codes "proportional" ∷ []

-- no table has a field but these
unfoldable pub unknown_checks : Members → Checks
unknown_checks ms =
    (fault.Field field.Unknown, ¬ (HasOnly policy_fields ms × All (HasOnly rule_fields) (rules_in ms)))
    ∷ []

-- what a rule gives: groups with their weights as they stand under `to`, or in proportion
abbrev pub Gives : Members → GiveValue → Type 0
Gives rule (fixed targets) = IsThere (at rule (codes "to")) (AreIntegers (map (λ t. (t.group, pos t.weight)) targets))
Gives rule proportional = at rule (codes "proportional") ≡ Some truth

-- the rule that a table stands for
pub record StandsForRule (rule : Members) (r : RuleValue) : Type 0 where
  pub from : at rule (codes "from") ≡ Some (string r.from)
  pub give : Gives rule r.give

-- the rules that a document's tables stand for, one for one and in order
abbrev pub StandForRules : Members → List RuleValue → Type 0
StandForRules ms rules = AllZip StandsForRule (rules_in ms) rules

-- no group gives away twice, and no group that is given to gives away
unfoldable pub group_checks : Members → Checks
group_checks ms =
    (fault.DoubleFrom, (rules : List RuleValue) × StandForRules ms rules × HasTwice (froms rules))
    ∷ (fault.TargetIsFrom, (rules : List RuleValue) × StandForRules ms rules × Any (λ g. Contains (froms rules) g) (targets_of rules))
    ∷ []

-- all the rules of a policy's table, in the order in which they are checked
unfoldable pub policy_checks : Members → Checks
policy_checks ms = key_checks ms ++ (array_checks ms ++ (rules_checks (rules_in ms) ++ (unknown_checks ms ++ group_checks ms)))

-- the policy that a table stands for
pub record StandsForPolicy (ms : Members) (p : PolicyValue) : Type 0 where
  pub key : at ms (codes "key") ≡ Some (string p.key)
  pub rules : StandForRules ms p.rules

-- what a table reads as: the policy that it stands for, or the fault of the first rule that it breaks
abbrev pub TableReads : Members → Result PolicyValue PolicyFault → Type 0
TableReads ms (Ok p) = NoneBroken (policy_checks ms) × StandsForPolicy ms p
TableReads ms (Err f) = FirstBroken (policy_checks ms) f

-- what a text reads as. Running out of memory may come in place of anything else
unfoldable pub PolicyReads : List ℕ → Result PolicyValue PolicyFault → Type 0
PolicyReads text (Err fault.NoMemory) = ⊤
PolicyReads text (Err fault.Syntax) = (ms : Members) → ¬ IsTable text ms
PolicyReads text r = (ms : Members) × IsTable text ms × TableReads ms r
