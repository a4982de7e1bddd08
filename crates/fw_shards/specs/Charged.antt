-- Reports of what direct reports add up to.
use Rattle.std.specs.Prelude.{◌≡◌, ℕ, List, Option}
use Rattle.fw_allocate.specs.Costs.{CostValue}
use Rattle.fw_query.specs.Reports.{AreChargedBy, EntryValue, entries_of}
use Rattle.fw_shards.specs.Added.{directs}
use Rattle.fw_sums.specs.Costs.{Cost}
use Rattle.fw_terms.specs.Policy.{PolicyValue}

-- the report has what the groups of a direct report are charged under the policy
pub record IsChargedReport (policy : Option PolicyValue) (key : List ℕ) (sum : List Cost) (report : List EntryValue) : Type 0 where
  pub charged : List CostValue
  pub are_charged : AreChargedBy policy key (directs sum) charged
  pub entries_are : report ≡ entries_of sum charged
