use Rattle.std.proofs.Common.{◌≡◌, ◌≤◌, take}
use Rattle.fw_query.specs.Limits.{most_total}
use Rattle.fw_query.specs.Entries.{direct_size}
use Rattle.fw_query.proofs.too_large.first_past.Given as goal

-- the total is that of the entries so far, and doesn't pass the most
abbrev pub invariant-loop-place : goal.invariant-loop-place
invariant-loop-place l = record {
  total : l.total ≡ direct_size (take l.place l.entries);
  within : l.total ≤ most_total;
}
