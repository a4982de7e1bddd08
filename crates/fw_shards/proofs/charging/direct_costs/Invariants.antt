use Rattle.std.proofs.Common.{◌≡◌, take}
use Rattle.fw_shards.specs.Added.{directs}
use Rattle.fw_shards.proofs.charging.direct_costs.Given as goal

-- the costs so far
abbrev pub invariant-loop-entry : goal.invariant-loop-entry
invariant-loop-entry l = l.costs.items ≡ directs (take l.entry-index l.entries)
