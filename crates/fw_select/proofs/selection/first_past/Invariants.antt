use Rattle.std.proofs.Common.{◌≡◌, ◌≤◌, take}
use Rattle.fw_query.specs.Limits.{most_total}
use Rattle.fw_select.specs.Selections.{size_of}
use Rattle.fw_select.proofs.selection.first_past.Given as goal

-- the total is that of the groups so far, and doesn't pass the most
abbrev pub invariant-loop-place : goal.invariant-loop-place
invariant-loop-place l = record {
  total : l.total ≡ size_of (take l.place l.groups);
  within : l.total ≤ most_total;
}
