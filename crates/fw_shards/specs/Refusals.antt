-- When reports aren't added up.
use Rattle.std.specs.Prelude.{List, string_bytes, ⊤}
use Rattle.fw_query.specs.Reports.{PassesIn}
use Rattle.fw_shards.specs.Added.{CanBeAdded}
use Rattle.fw_shards.specs.declared.fault.AddFault.{AddFault}
use Rattle.fw_shards.specs.declared.fault.AddFault.TheVariants as fault
use Rattle.fw_sums.specs.Costs.{Cost}

-- the reports with these entries aren't added up for this reason; a failed allocation may come in place of any answer
abbrev pub AreNotAdded : List Cost → AddFault → Type 0
AreNotAdded costs fault.OutOfRange = ¬ CanBeAdded costs
AreNotAdded costs (fault.TotalTooLarge group) = CanBeAdded costs × PassesIn costs (string_bytes group)
AreNotAdded costs fault.NoMemory = ⊤
