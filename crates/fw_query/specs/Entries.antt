-- The entries of a report as they are made. The private functions of the report cite it.
use Rattle.std.specs.Prelude.{◌≡◌, ◌+◌, ◌<◌, ◌≤◌, ℕ, List, length, take, sum_by, nat_abs, map, find, Option, pos}
use Rattle.std.specs.Option.{option_map_or}
use Rattle.std.specs.Str.{bytes_eq}
use Rattle.fw_terms.specs.Policy.{RuleValue}
use Rattle.fw_allocate.specs.Charges.{AreCharges}
use Rattle.fw_allocate.specs.Costs.{CostValue}
use Rattle.fw_sums.specs.Costs.{AreGroups, Cost}
use Rattle.fw_query.specs.Limits.{most_total}
use Rattle.fw_query.specs.Reports.{EntryValue, direct_costs, entries_of}

-- the entries are those of the groups of these lines, each charged its direct cost
pub record AreEntries (costs : List Cost) (entries : List EntryValue) : Type 0 where
  pub groups : List (List ℕ)
  pub are_groups : AreGroups costs groups
  pub entries_are : entries ≡ entries_of costs (direct_costs costs groups)

-- the entry of a group that is charged its direct cost
abbrev pub plain_entry : Cost → EntryValue
plain_entry total = record { group = total.group; billed = total.billed; direct = total.effective; charged = total.effective }

-- the sum of the absolute direct costs
abbrev pub direct_size : List EntryValue → ℕ
direct_size entries = sum_by (λ e. nat_abs e.direct) entries

-- the entries before this place don't pass the most, and with the entry at it they do
pub record PassesAtPlace (entries : List EntryValue) (place : ℕ) : Type 0 where
  pub below : place < length entries
  pub within : direct_size (take place entries) ≤ most_total
  pub past : most_total < direct_size (take (place + 1) entries)

-- the direct costs as the entries have them
abbrev pub directs_of : List EntryValue → List CostValue
directs_of entries = map (λ e. record { group = e.group; cost = e.direct }) entries

-- the entry of a group, where it has one
abbrev pub entry_at : List EntryValue → List ℕ → Option EntryValue
entry_at entries group = find (λ e. bytes_eq e.group group) entries

-- the entry of a charged group: a group without lines has no costs of its own
abbrev pub charged_entry : List EntryValue → CostValue → EntryValue
charged_entry entries c = record {
  group = c.group;
  billed = option_map_or (λ e. e.billed) (entry_at entries c.group) (pos 0);
  direct = option_map_or (λ e. e.direct) (entry_at entries c.group) (pos 0);
  charged = c.cost;
}

-- entries of charges under these rules
pub record AreUnder (entries : List EntryValue) (rules : List RuleValue) (charged_entries : List EntryValue) : Type 0 where
  pub charged : List CostValue
  pub are_charges : AreCharges (directs_of entries) rules charged
  pub entries_are : charged_entries ≡ map (charged_entry entries) charged
