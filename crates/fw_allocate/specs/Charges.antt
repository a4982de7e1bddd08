-- What the groups are charged: each group that a rule names as `from` gives its whole direct cost away, unless the weights of those that would get it sum to 0.
use Rattle.std.specs.Prelude.{◌≡◌, ◌↔◌, ℕ, ◌==◌, ◌&&◌, not, Bool, List, [], ◌++◌, map, filter, sum, if◌then◌else◌, ℤ, pos, ◌+ℤ◌, ◌-ℤ◌, int_lt, MatchBool, Contains}
use Rattle.std.specs.List.{list_any, AllZip}
use Rattle.std.specs.Str.{bytes_eq}
use Rattle.fw_shares.specs.Shares.{IsSharesOf, magnitudes}
use Rattle.fw_terms.specs.Policy.{RuleValue, GiveValue, fixed, proportional, froms, targets_of}
use Rattle.fw_terms.specs.Texts.{IsRising}
use Rattle.fw_allocate.specs.Costs.{CostValue, groups_in, amounts_in, total, amount_of, cost_in}

-- some rule gives the cost of the group away
abbrev pub gives : List RuleValue → List ℕ → Bool
gives rules g = list_any (λ r. bytes_eq r.from g) rules

-- in proportion, a group is given to where its own cost is positive and no rule gives that away
abbrev pub takes_part : List RuleValue → CostValue → Bool
takes_part rules c = int_lt (pos 0) c.cost && not (gives rules c.group)

-- the groups that a rule gives to, in rising order
abbrev pub receivers : List CostValue → List RuleValue → GiveValue → List (List ℕ)
receivers direct rules (fixed targets) = map (λ t. t.group) targets
receivers direct rules proportional = groups_in (filter (takes_part rules) direct)

-- their weights
abbrev pub weights : List CostValue → List RuleValue → GiveValue → List ℤ
weights direct rules (fixed targets) = map (λ t. pos t.weight) targets
weights direct rules proportional = amounts_in (filter (takes_part rules) direct)

-- where the weights sum to 0 a rule moves nothing
abbrev pub moves : List CostValue → List RuleValue → GiveValue → Bool
moves direct rules give = not (sum (magnitudes (weights direct rules give)) == 0)

-- what a rule moves: the cost that a group gives away, and the shares of it that the receivers get, in nanos
pub record GiftValue : Type 0 where
  pub from : List ℕ
  pub given : ℤ
  pub groups : List (List ℕ)
  pub shares : List ℤ

-- what a rule moves is the whole direct cost of its group, in shares by largest remainder
pub record IsGift (direct : List CostValue) (rules : List RuleValue) (rule : RuleValue) (gift : GiftValue) : Type 0 where
  pub from : gift.from ≡ rule.from
  pub given : gift.given ≡ (if moves direct rules rule.give then cost_in direct rule.from else pos 0)
  pub groups : gift.groups ≡ receivers direct rules rule.give
  pub shares : MatchBool (moves direct rules rule.give) (IsSharesOf (cost_in direct rule.from) (weights direct rules rule.give) gift.shares) (gift.shares ≡ [])

-- what a gift takes from a group, and what it brings to it
abbrev pub taken_from : List ℕ → GiftValue → ℤ
taken_from g gift = if bytes_eq gift.from g then gift.given else pos 0

abbrev pub brought_to : List ℕ → GiftValue → ℤ
brought_to g gift = amount_of gift.groups gift.shares g

-- the direct cost, less what was given away, plus the shares received
abbrev pub charged_to : List CostValue → List GiftValue → List ℕ → ℤ
charged_to direct gifts g = (cost_in direct g -ℤ total (map (taken_from g) gifts)) +ℤ total (map (brought_to g) gifts)

-- what each of these groups is charged
abbrev pub charges_with : List CostValue → List GiftValue → List (List ℕ) → List CostValue
charges_with direct gifts groups = map (λ g. record { group = g; cost = charged_to direct gifts g }) groups

-- the groups of the costs, and those that the rules name
abbrev pub names : List CostValue → List RuleValue → List (List ℕ)
names direct rules = groups_in direct ++ (froms rules ++ targets_of rules)

-- these groups, in rising order, each once
pub record AreGroups (direct : List CostValue) (rules : List RuleValue) (groups : List (List ℕ)) : Type 0 where
  pub rising : IsRising groups
  pub each : (g : List ℕ) → Contains groups g ↔ Contains (names direct rules) g

-- what the groups are charged under the rules, which make one gift each
pub record AreCharges (direct : List CostValue) (rules : List RuleValue) (charged : List CostValue) : Type 0 where
  pub gifts : List GiftValue
  pub are_gifts : AllZip (IsGift direct rules) rules gifts
  pub groups : List (List ℕ)
  pub are_groups : AreGroups direct rules groups
  pub costs : charged ≡ charges_with direct gifts groups
