use Rattle.std.proofs.Common.{◌≡◌, ◌≤◌, ◌+◌, take}
use Rattle.fw_shards.specs.Added.{direct_size, capped, most_added}
use Rattle.fw_shards.proofs.range.more_direct.Given as goal

-- the size so far
abbrev pub invariant-loop-entry : goal.invariant-loop-entry
invariant-loop-entry l = record {
  size : l.size ≡ capped (l.initial.size + direct_size (take l.entry-index l.entries));
  within : l.size ≤ most_added + 1;
}
