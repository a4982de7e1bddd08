-- A policy as plain values.
use Rattle.std.specs.Prelude.{◌<◌, ◌≤◌, ℕ, List, [], length, map, All, Contains}
use Rattle.std.specs.List.{flat_map}
use Rattle.fw_charge.specs.Tags.{longest_tag_text}
use Rattle.fw_terms.specs.Texts.{IsRising, HasTwice}

-- a group that is given a part, and its weight among the targets of its rule
pub record TargetValue : Type 0 where
  pub group : List ℕ
  pub weight : ℕ

-- whom a group's cost is given to: these groups by their weights, or the others in proportion to their own costs
pub data GiveValue : Type 0 where
  fixed : List TargetValue → GiveValue
  proportional : GiveValue

-- the group whose cost is given away, and to whom; the empty text is the group of lines without the key
pub record RuleValue : Type 0 where
  pub from : List ℕ
  pub give : GiveValue

-- the tag key whose values are the groups, and the rules
pub record PolicyValue : Type 0 where
  pub key : List ℕ
  pub rules : List RuleValue

-- the greatest number of bytes of a policy's key and of a group: those of a tag
abbrev pub most_text : ℕ
most_text = longest_tag_text

abbrev pub most_rules : ℕ
most_rules = 64

abbrev pub most_targets : ℕ
most_targets = 256

abbrev pub most_weight : ℕ
most_weight = 1000000000

pub record IsTarget (t : TargetValue) : Type 0 where
  pub group : length t.group ≤ most_text
  pub weight : t.weight ≤ most_weight

-- 1 to 256 targets, in rising order of their groups
pub record AreTargets (targets : List TargetValue) : Type 0 where
  pub some : 0 < length targets
  pub few : length targets ≤ most_targets
  pub each : All IsTarget targets
  pub rising : IsRising (map (λ t. t.group) targets)

abbrev pub IsGive : GiveValue → Type 0
IsGive (fixed targets) = AreTargets targets
IsGive proportional = Unit {0}

pub record IsRule (r : RuleValue) : Type 0 where
  pub from : length r.from ≤ most_text
  pub give : IsGive r.give

-- the groups that give away
abbrev pub froms : List RuleValue → List (List ℕ)
froms rules = map (λ r. r.from) rules

-- the groups that a rule names as targets
abbrev pub groups_given : GiveValue → List (List ℕ)
groups_given (fixed targets) = map (λ t. t.group) targets
groups_given proportional = []

-- the groups that some rule names as a target
abbrev pub targets_of : List RuleValue → List (List ℕ)
targets_of rules = flat_map (λ r. groups_given r.give) rules

-- what each policy keeps: the limits, no group gives away twice, and no group that gives away is a target
pub record IsPolicy (p : PolicyValue) : Type 0 where
  pub key_some : 0 < length p.key
  pub key_short : length p.key ≤ most_text
  pub few : length p.rules ≤ most_rules
  pub rules : All IsRule p.rules
  pub once : ¬ HasTwice (froms p.rules)
  pub apart : All (λ g. ¬ Contains (froms p.rules) g) (targets_of p.rules)

abbrev pub policy_value : List ℕ → List RuleValue → PolicyValue
policy_value key rules = record { key = key; rules = rules }
