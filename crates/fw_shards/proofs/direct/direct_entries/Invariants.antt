use Rattle.std.proofs.Common.{◌≡◌, map, take}
use Rattle.fw_shards.specs.Added.{direct_of}
use Rattle.fw_shards.proofs.direct.direct_entries.Given as goal

-- the entries so far
abbrev pub invariant-loop-entry : goal.invariant-loop-entry
invariant-loop-entry l = l.direct.items ≡ map direct_of (take l.entry-index l.entries)
