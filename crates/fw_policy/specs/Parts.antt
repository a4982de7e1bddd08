-- What the parts of a policy's document read as. The private functions of the reader cite it.
use Rattle.std.specs.Prelude.{◌≡◌, ◌⊎◌, ◌<◌, ◌≤◌, ℕ, ℤ, pos, List, [], ◌∷◌, map, length, All, Some, Result, Err, codes}
use Rattle.std.specs.List.{AllZip}
use Rattle.toml.specs.Data.{Data, Members, string}
use Rattle.fw_rules.specs.Table.{FirstBroken, NoneBroken}
use Rattle.fw_terms.specs.Policy.{TargetValue, GiveValue, RuleValue, PolicyValue, AreTargets, IsGive, IsRule, most_text, most_rules}
use Rattle.fw_toml.specs.Tree.{at, IsTableOf, IsInteger, Anything, AreIntegers, members_list}
use Rattle.fw_policy.specs.Policy.{Checks, key_checks, array_checks, from_checks, give_checks, rule_checks, rules_checks, rules_in, IsWeight, AreWeights, Gives, StandsForRule, TableReads}
use Rattle.fw_policy.specs.declared.fault.PolicyField.TheVariants as field
use Rattle.fw_policy.specs.declared.fault.PolicyFault.{PolicyFault}
use Rattle.fw_policy.specs.declared.fault.PolicyFault.TheVariants as fault

-- the fault of the first rule that is broken; running out of memory may come in its place
abbrev pub IsFault : Checks → PolicyFault → Type 0
IsFault checks f = (f ≡ fault.NoMemory) ⊎ FirstBroken checks f

-- the tag key is this
pub record IsKey (ms : Members) (key : List ℕ) : Type 0 where
  pub is : at ms (codes "key") ≡ Some (string key)
  pub some : 0 < length key
  pub short : length key ≤ most_text
  pub unbroken : NoneBroken (key_checks ms)

-- the tables of the rules are these
pub record AreRuleTables (ms : Members) (tables : List Members) : Type 0 where
  pub are : rules_in ms ≡ tables
  pub few : length tables ≤ most_rules
  pub unbroken : NoneBroken (array_checks ms)

-- the group that gives away is this
pub record IsFrom (rule : Members) (from : List ℕ) : Type 0 where
  pub is : at rule (codes "from") ≡ Some (string from)
  pub short : length from ≤ most_text
  pub unbroken : NoneBroken (from_checks rule)

-- the rules of a value under `to`
unfoldable pub to_checks : Data → Checks
to_checks to =
    (fault.Field field.To, ¬ IsTableOf (λ ms. All (λ m. IsInteger Anything m.1) (members_list ms)) to)
    ∷ (fault.Limit field.To, ¬ IsTableOf (λ ms. AreWeights (members_list ms)) to)
    ∷ []

-- a group beside a number is one beside its weight
abbrev pub IsSized : List ℕ × ℤ → Type 0
IsSized w = (length w.0 ≤ most_text) × IsWeight w.1

-- targets as groups beside numbers
abbrev pub weights_of : List TargetValue → List (List ℕ × ℤ)
weights_of targets = map (λ t. (t.group, pos t.weight)) targets

-- the targets under `to` are these
pub record AreTargetsOf (to : Data) (targets : List TargetValue) : Type 0 where
  pub are : AreIntegers (weights_of targets) to
  pub kept : AreTargets targets
  pub unbroken : NoneBroken (to_checks to)

-- what a rule gives is this
pub record IsGiven (rule : Members) (give : GiveValue) : Type 0 where
  pub gives : Gives rule give
  pub kept : IsGive give
  pub unbroken : NoneBroken (give_checks rule)

-- the rule of a table is this
pub record IsRuleOf (table : Members) (rule : RuleValue) : Type 0 where
  pub stands : StandsForRule table rule
  pub kept : IsRule rule
  pub unbroken : NoneBroken (rule_checks table)

-- the rules of some tables are these
pub record AreRulesOf (tables : List Members) (rules : List RuleValue) : Type 0 where
  pub stand : AllZip StandsForRule tables rules
  pub kept : All IsRule rules
  pub unbroken : NoneBroken (rules_checks tables)

-- what a table reads as, or out of memory
abbrev pub TableGives : Members → Result PolicyValue PolicyFault → Type 0
TableGives ms r = (r ≡ Err fault.NoMemory) ⊎ TableReads ms r
