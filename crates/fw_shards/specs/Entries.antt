-- The entries of a report as they are made of a direct report. The private functions that make them cite it.
use Rattle.std.specs.Prelude.{ℕ, List, Option, find, pos}
use Rattle.std.specs.Option.{option_map_or}
use Rattle.std.specs.Str.{bytes_eq}
use Rattle.fw_allocate.specs.Costs.{CostValue}
use Rattle.fw_query.specs.Reports.{EntryValue}
use Rattle.fw_sums.specs.Costs.{Cost}

-- the costs of a group, where it has lines
abbrev pub cost_at : List Cost → List ℕ → Option Cost
cost_at sum group = find (λ c. bytes_eq c.group group) sum

-- the entry of a charged group: a group without lines has no costs of its own
abbrev pub entry_of : List Cost → CostValue → EntryValue
entry_of sum c = record {
  group = c.group;
  billed = option_map_or (λ own. own.billed) (cost_at sum c.group) (pos 0);
  direct = option_map_or (λ own. own.effective) (cost_at sum c.group) (pos 0);
  charged = c.cost;
}

-- a total, as the entry of a direct report
abbrev pub cost_of_total : Cost → Cost
cost_of_total total = record { group = total.group; billed = total.billed; effective = total.effective }
