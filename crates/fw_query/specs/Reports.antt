-- What a report says.
use Rattle.std.specs.Prelude.{◌≡◌, ◌≤◌, ℕ, ℤ, List, map, Option, Some, None, MatchBool}
use Rattle.std.specs.Str.{bytes_eq}
use Rattle.fw_charge.specs.Charge.{Charge}
use Rattle.fw_terms.specs.Commitment.{CommitmentValue}
use Rattle.fw_terms.specs.Policy.{PolicyValue}
use Rattle.fw_allocate.specs.Costs.{CostValue, size_of}
use Rattle.fw_allocate.specs.Charges.{AreCharges}
use Rattle.fw_amortise.specs.LineValue.{LineValue}
use Rattle.fw_sums.specs.Costs.{Cost, AreGroups, costs_of, sum_in}
use Rattle.fw_query.specs.Limits.{PassesAt, most_total}
use Rattle.fw_sums.specs.RangeLines.{AreRangeLines}

-- a group of a report: the sums of BilledCost and EffectiveCost over its lines, and what it is charged, in nanos
pub record EntryValue : Type 0 where
  pub group : List ℕ
  pub billed : ℤ
  pub direct : ℤ
  pub charged : ℤ

-- the direct cost of each group: the sum of EffectiveCost over its lines
unfoldable pub direct_costs : List Cost → List (List ℕ) → List CostValue
direct_costs costs groups = map (λ g. record { group = g; cost = sum_in (λ c. c.effective) costs g }) groups

-- the charges are those of the policy where its key is the one of the report; else each group is charged its direct cost
abbrev pub AreChargedBy : Option PolicyValue → List ℕ → List CostValue → List CostValue → Type 0
AreChargedBy None key direct charged = charged ≡ direct
AreChargedBy (Some policy) key direct charged = MatchBool (bytes_eq policy.key key) (AreCharges direct policy.rules charged) (charged ≡ direct)

-- an entry for each group that is charged
unfoldable pub entries_of : List Cost → List CostValue → List EntryValue
entries_of costs charged =
    map (λ c. record { group = c.group; billed = sum_in (λ l. l.billed) costs c.group; direct = sum_in (λ l. l.effective) costs c.group; charged = c.cost }) charged

-- the report of these lines: the direct costs of their groups aren't too large, and there is an entry for each group that is charged
pub record IsReportOf (policy : Option PolicyValue) (key : List ℕ) (lines : List LineValue) (entries : List EntryValue) : Type 0 where
  pub groups : List (List ℕ)
  pub are_groups : AreGroups (costs_of key lines) groups
  pub within : size_of (direct_costs (costs_of key lines) groups) ≤ most_total
  pub charged : List CostValue
  pub are_charged : AreChargedBy policy key (direct_costs (costs_of key lines) groups) charged
  pub entries_are : entries ≡ entries_of (costs_of key lines) charged

-- the report of the lines of a range of hours
pub record IsReport (cs : List CommitmentValue) (rows : List Charge) (policy : Option PolicyValue) (key : List ℕ) (from to : ℕ) (entries : List EntryValue) : Type 0 where
  pub lines : List LineValue
  pub are_lines : AreRangeLines cs rows from to lines
  pub is_report : IsReportOf policy key lines entries

-- the direct costs of these lines, group by group, pass the most at this group
pub record PassesIn (costs : List Cost) (group : List ℕ) : Type 0 where
  pub groups : List (List ℕ)
  pub are_groups : AreGroups costs groups
  pub passes : PassesAt group (direct_costs costs groups)

-- the same of the lines of a range of hours
pub record IsTooLarge (cs : List CommitmentValue) (rows : List Charge) (key : List ℕ) (from to : ℕ) (group : List ℕ) : Type 0 where
  pub lines : List LineValue
  pub are_lines : AreRangeLines cs rows from to lines
  pub passes : PassesIn (costs_of key lines) group
