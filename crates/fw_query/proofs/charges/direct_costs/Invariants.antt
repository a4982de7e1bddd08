use Rattle.std.proofs.Common.{◌≡◌, take}
use Rattle.fw_query.specs.Entries.{directs_of}
use Rattle.fw_query.proofs.charges.direct_costs.Given as goal

-- the costs so far
abbrev pub invariant-loop-entry : goal.invariant-loop-entry
invariant-loop-entry l = l.costs.items ≡ directs_of (take l.entry-index l.entries)
