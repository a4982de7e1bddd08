-- Whether the rules of a policy keep apart the groups that give and those that are given to, as a test.
use Rattle.std.specs.Prelude.{ℕ, Bool, false, ◌||◌, List, [], ◌∷◌}
use Rattle.std.specs.Str.{bytes_eq}
use Rattle.fw_terms.specs.Policy.{TargetValue, GiveValue, RuleValue}
use Rattle.fw_terms.specs.Policy.GiveValue.{fixed, proportional}

-- some rule gives away the cost of a group
abbrev pub is_from : List RuleValue → List ℕ → Bool
is_from [] group = false
is_from (rule ∷ rules) group = bytes_eq rule.from group || is_from rules group

-- some group gives away twice
abbrev pub has_double_from : List RuleValue → Bool
has_double_from [] = false
has_double_from (rule ∷ rules) = is_from rules rule.from || has_double_from rules

-- one of the targets gives away by one of the rules
abbrev pub is_any_from : List RuleValue → List TargetValue → Bool
is_any_from rules [] = false
is_any_from rules (target ∷ targets) = is_from rules target.group || is_any_from rules targets

-- what a rule gives goes to a group that gives away by one of the rules
abbrev pub gives_to_from : List RuleValue → GiveValue → Bool
gives_to_from rules (fixed targets) = is_any_from rules targets
gives_to_from rules proportional = false

-- some of the rules gives to a group that gives away by one of `all`
abbrev pub has_target_from : List RuleValue → List RuleValue → Bool
has_target_from all [] = false
has_target_from all (rule ∷ rules) = gives_to_from all rule.give || has_target_from all rules
