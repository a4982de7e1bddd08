use Rattle.std.proofs.Common.{◌≡◌, ◌≤◌, take}
use Rattle.fw_query.specs.Limits.{most_total}
use Rattle.fw_shards.specs.Added.{direct_size}
use Rattle.fw_shards.proofs.adding.first_past.Given as goal

-- the size is that of the totals so far, and doesn't pass the most
abbrev pub invariant-loop-place : goal.invariant-loop-place
invariant-loop-place l = record {
  size : l.size ≡ direct_size (take l.place l.totals);
  within : l.size ≤ most_total;
}
