use Rattle.std.proofs.Common.{◌≡◌, ◌≤◌, ◌-◌, length, take, drop}
use Rattle.fw_stored_rows.proofs.stored.StoredRows.has_at.Given as goal

-- the rows so far are the same
abbrev pub invariant-loop-done : goal.invariant-loop-done
invariant-loop-done l = record {
  same : take l.done l.part ≡ take l.done (drop l.first l.self);
  within : l.done ≤ length l.part;
}

abbrev pub decreases-loop-done : goal.decreases-loop-done
decreases-loop-done l = length l.part - l.done
