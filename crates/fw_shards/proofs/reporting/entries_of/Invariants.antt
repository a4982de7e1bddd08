use Rattle.std.proofs.Common.{◌≡◌, map, take}
use Rattle.fw_shards.specs.Entries.{entry_of}
use Rattle.fw_shards.proofs.reporting.entries_of.Given as goal

-- the entries so far
abbrev pub invariant-loop-cost : goal.invariant-loop-cost
invariant-loop-cost l = l.entries.items ≡ map (entry_of l.sum) (take l.cost-index l.charged)
